-- `forms_sums::sums::look_up_two` meets its contract. The invariant: of both rows, the entries that the words below k
-- choose are added.
-- Assumes nothing.
use Prim.Native.Nat.{ℕ, ◌+◌, ◌*◌, ◌/◌, ◌-◌}
use mathlib.Core.Path.{◌≡◌, sym, ap, ap₂, ◌∙◌}
use native.Mathlib.Omega.{arith}
use Rattle.std.proofs.Math.Nat.{zero-add}
use lib.ListN.{get_or-replicate}
use lib.Bits.{bit_xor}
use Rattle.strings.specs.Sums.{byte_at, xor_sum}
use Rattle.chunks.specs.Chunks.{chunk}
use Rattle.forms_choices.specs.Entries.{word_byte}
use Rattle.forms_choices.proofs.ChoiceLaws.{looked_more, looked_last}
use Rattle.forms_sums.proofs.sums.look_up_two.Goals as goal

pub loop-k-init : goal.loop-k-init
unfolding xor_sum
loop-k-init c = ((λ f h. get_or-replicate chunk f 0 0 h), λ f h. get_or-replicate chunk f 0 0 h)

pub loop-k-preserved : goal.loop-k-preserved
loop-k-preserved c =
    let a = c.args in
    let l = c.loop-k in
    let done = c.add_words in
    let S = a.sums.now in
    let W = a.words.now in
    let next : (l.k + 1) * 10 ≡ l.k * 10 + 10 = omega arith in
    let at : a.r * 4 + 4 + l.k ≡ (a.r + 1) * 4 + l.k = omega arith in (
      rw next (λ f h. done.ensures.by_index f h ∙ ap (λ (x : ℕ). bit_xor x (word_byte S l.k 10 (byte_at W (a.r * 4 + l.k)) f)) (l.invariant.0 f h) ∙ sym (looked_more S W a.r l.k 10 f (omega arith))),
      rw next (λ f h. done.ensures.by_index_2 f h ∙ ap₂ (λ (x y : ℕ). bit_xor x (word_byte S l.k 10 (byte_at W y) f)) (l.invariant.1 f h) at ∙ sym (looked_more S W (a.r + 1) l.k 10 f (omega arith))),
    )

pub returns : goal.returns
returns c =
    let a = c.args in
    let l = c.loop-k in
    let done = c.add_last in
    let S = a.sums.now in
    let W = a.words.now in
    let end : l.k ≡ a.groups / 10 = omega arith in
    let at : a.r * 4 + 4 + 3 ≡ (a.r + 1) * 4 + 3 = omega arith in record {
      by_index = (λ f h.
          c.copy_part-2.ensures.rows_kept 0 f (λ e. omega arith) h ∙ c.copy_part.ensures.by_index f h ∙ ap (byte_at c.add_last.new.first) (zero-add f)
          ∙ done.ensures.by_index f h
          ∙ ap (λ (x : ℕ). bit_xor x (word_byte S 3 (a.groups - 30) (byte_at W (a.r * 4 + 3)) f)) ((rw end at l.invariant.0) f h)
          ∙ sym (looked_last S W a.r a.groups f c.requires.1));
      by_index_2 = (λ f h.
          c.copy_part-2.ensures.by_index f h ∙ ap (byte_at c.add_last.new.second) (zero-add f)
          ∙ done.ensures.by_index_2 f h
          ∙ ap₂ (λ (x y : ℕ). bit_xor x (word_byte S 3 (a.groups - 30) (byte_at W y) f)) ((rw end at l.invariant.1) f h) at
          ∙ sym (looked_last S W (a.r + 1) a.groups f c.requires.1));
    }
