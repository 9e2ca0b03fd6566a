-- `forms_sums::sums::look_up` meets its contract. The invariant: the entries that the words below k choose are added.
-- Assumes nothing.
use Rattle.std.proofs.Common.{ℕ, List, ◌≡◌, ◌+◌, ◌*◌, ◌/◌, ◌-◌, sym, ap, ◌∙◌, arith}
use Rattle.std.proofs.Math.Nat.{zero-add}
use lib.ListN.{get_or-replicate}
use lib.Bits.{bit_xor, xor_zero_r}
use Rattle.strings.specs.Sums.{byte_at, xor_sum}
use Rattle.chunks.specs.Chunks.{chunk}
use Rattle.forms_choices.specs.Entries.{word_byte, looked_up}
use Rattle.forms_choices.proofs.ChoiceLaws.{looked_more, looked_last}
use Rattle.forms_sums.proofs.sums.look_up.Goals.{then-groups-gt30, else-groups-gt30}
use Rattle.forms_sums.proofs.sums.look_up.Goals as goal

pub loop-k-init : goal.loop-k-init
unfolding xor_sum
loop-k-init c = λ f h. get_or-replicate chunk f 0 0 h

pub loop-k-preserved : goal.loop-k-preserved
loop-k-preserved c =
    let a = c.args in
    let l = c.loop-k in
    let next : (l.k + 1) * 10 ≡ l.k * 10 + 10 = omega arith in
    rw next (λ f h. c.add_word.ensures f h ∙ ap (λ (x : ℕ). bit_xor x (word_byte a.sums.now l.k 10 (byte_at a.words.now (a.r * 4 + l.k)) f)) (l.invariant f h) ∙ sym (looked_more a.sums.now a.words.now a.r l.k 10 f (omega arith)))

pub returns : goal.returns
unfolding xor_sum
returns c f h =
    let a = c.args in
    let l = c.loop-k in
    let S = a.sums.now in
    let W = a.words.now in
    let end : l.k ≡ a.groups / 10 = omega arith in
    let whole : byte_at l.sum f ≡ looked_up S W a.r (a.groups / 10 * 10) f = (rw end at l.invariant) f h in
    let last : byte_at c.if-groups-gt30.sum f ≡ bit_xor (byte_at l.sum f) (word_byte S 3 (a.groups - 30) (byte_at W (a.r * 4 + 3)) f) =
    elim c.if-groups-gt30.branch [
      | then-groups-gt30 w ↦
          let all : a.groups ≡ 32 = c.requires.2.2 w.if-groups-gt30.true in
          let two : a.groups - 30 ≡ 2 = omega arith in
          rw two (ap (λ (s : List ℕ). byte_at s f) w.sum-is ∙ w.add_word-then-groups-gt30.ensures f h)
      | else-groups-gt30 w ↦
          let low = w.if-groups-gt30.false in
          let none : a.groups - 30 ≡ 0 = omega (arith, low) in
          rw none (ap (λ (s : List ℕ). byte_at s f) w.sum-is ∙ sym (xor_zero_r _))
    ] in
    (simp zero-add at (c.copy_front.ensures.by_index f h)) ∙ last
    ∙ ap (λ (x : ℕ). bit_xor x (word_byte S 3 (a.groups - 30) (byte_at W (a.r * 4 + 3)) f)) whole
    ∙ sym (looked_last S W a.r a.groups f c.requires.2)
