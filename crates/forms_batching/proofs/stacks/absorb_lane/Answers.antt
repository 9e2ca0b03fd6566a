-- `forms_batching::stacks::absorb_lane` meets its contract. The part that was lent is the stack of e, and the others
-- stand outside it.
-- Assumes nothing.
use borrow.Author.Rules.{rules}
use Prim.Native.Nat.{ℕ, ◌+◌, ◌*◌, ◌-◌, ◌^◌, ◌≤◌, ◌<◌}
use mathlib.Core.List.{List}
use mathlib.Core.Path.{◌≡◌, sym, ap, ap₂, ◌∙◌}
use native.Mathlib.Nat.{add-sub_cancel_left, add_assoc}
use native.Mathlib.Omega.{arith}
use lib.ListN.{length, length-take, length-drop}
use borrow.Rule.Slice.PartMut.{put_mid}
use lib.Bits.{bit_xor}
use Rattle.protocol.specs.Lists.{part, block_at}
use Rattle.galois.specs.Degrees.{degree_of}
use Rattle.strings.specs.Sums.{byte_at, bit_of, xor_sum}
use Rattle.strings.proofs.Rows.{row-byte, put_in, put_other}
use Rattle.chunks.specs.Chunks.{chunk, cell_at, Masks}
use Rattle.forms_choices.specs.Entries.{Weighed}
use Rattle.forms_columns.specs.Stacks.{byte_product, planes, stack_at}
use Rattle.protocol.specs.Shape.{most_variables}
use Rattle.forms_batching.proofs.StackLaws.{stack_is}
use Rattle.forms_batching.proofs.stacks.absorb_lane.Goals as goal

pub absorb-requires : goal.absorb-requires
absorb-requires c =
    let pre = c.requires in
    (search rules, search rules, pre.2, pre.3)

pub returns : goal.returns
unfolding block_at part
returns c =
    let a = c.args in
    let l = a.stacks.now in
    let at = a.e * (planes * chunk) in
    let done = c.absorb in
    let r = done.new.t in
    let spreads = c.fill_halves in
    let v = spreads.new.v in
    let e : at + planes * chunk - at ≡ planes * chunk = add-sub_cancel_left at (planes * chunk) in
    let fits : at + planes * chunk ≤ length l = c.requires.0 in
    let long : length (block_at l (planes * chunk) a.e) ≡ planes * chunk = simp (length-take, length-drop) (omega arith) in
    let kept : length r ≡ planes * chunk = rw e at done.auto.t ∙ long in
    let filled = c.fill_masks in
    let sums : ((d : ℕ) (S v : List ℕ) (χ : ℕ → ℕ) (m f z : ℕ) → a.r ≡ degree_of d → Weighed S χ m a.sums.now a.words.now a.groups (a.e * 8) → Masks v filled.new.masks → byte_at v f < 2 ^ degree_of d → f < chunk → stack_at d r f z ≡ bit_xor (stack_at d (block_at l (planes * chunk) a.e) f z) (byte_product d (byte_at v f) (xor_sum m (λ i. bit_of (cell_at S i f) z * χ i)))) =
    rw e at done.ensures in
    rw e (record {
      by_index = (λ d S χ m h f z is weighed narrow hh hf.
          let inside : h * 16 + f < chunk = omega arith in
          let lane : byte_at v (h * 16 + f) ≡ byte_at a.vectors.now (a.e * most_variables + (a.first + f)) = spreads.ensures h f hh hf ∙ ap (byte_at a.vectors.now) (add_assoc (a.e * most_variables) a.first f) in
          let small : byte_at v (h * 16 + f) < 2 ^ degree_of d = rw lane narrow in
          stack_is d (put_mid at (planes * chunk) l r) r a.e (h * 16 + f) z inside (put_in at (planes * chunk) l r fits kept)
          ∙ sums d S v χ m (h * 16 + f) z is weighed filled.ensures small inside
          ∙ ap₂ (λ (x y : ℕ). bit_xor x (byte_product d y (xor_sum m (λ i. bit_of (cell_at S i (h * 16 + f)) z * χ i))))
          (sym (stack_is d l (block_at l (planes * chunk) a.e) a.e (h * 16 + f) z inside (λ b h. sym (row-byte l (planes * chunk) a.e b h)))) lane);
      rows_kept = put_other a.e (planes * chunk) l r fits kept;
    })
