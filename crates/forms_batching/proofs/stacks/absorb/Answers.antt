-- `forms_batching::stacks::absorb` meets its contract. The invariant: of the planes below the degree, those below 2·k
-- are added, each times its power. What they come to is `StackLaws`.
-- Assumes nothing.
use Prim.Native.Nat.{ℕ, ◌+◌, ◌*◌, ◌^◌, ◌<◌}
use mathlib.Core.List.{List}
use mathlib.Core.Path.{◌≡◌, refl, sym, ap, ◌∙◌}
use native.Mathlib.Omega.{arith}
use lib.ListN.{length}
use lib.Bits.{bit_xor, xor_zero_r}
use Rattle.galois.specs.Degrees.{degree_of}
use Rattle.strings.specs.Sums.{byte_at, xor_sum}
use Rattle.chunks.specs.Chunks.{chunk, Masks}
use Rattle.forms_choices.specs.Entries.{up_to, Weighed}
use Rattle.forms_columns.specs.Stacks.{stack_at}
use Rattle.forms_batching.specs.Batched.{plane_times}
use Rattle.forms_batching.proofs.StackLaws.{all-planes, two-more, none_more}
use Rattle.forms_batching.proofs.stacks.absorb.Goals as goal
use Rattle.forms_batching.proofs.stacks.absorb.Goals.{then-k-r, else-k-r}

pub loop-k-init : goal.loop-k-init
unfolding xor_sum
loop-k-init c = (c.requires.0, λ d S v χ m f z is w k l i. sym (xor_zero_r _))

pub absorb_two-requires : goal.absorb_two-requires
absorb_two-requires c = (c.loop-k.invariant.0, omega (arith, c.loop-k-test.true), c.requires.1, c.requires.2, c.requires.3)

pub loop-k-preserved : goal.loop-k-preserved
loop-k-preserved c =
    let a = c.args in
    let l = c.loop-k in
    let Added : List ℕ → Type 0 =
    λ t. (d : ℕ) (S v : List ℕ) (χ : ℕ → ℕ) (m f z : ℕ) → a.r ≡ degree_of d → Weighed S χ m a.sums.now a.words.now a.groups a.base → Masks v a.masks.now → byte_at v f < 2 ^ degree_of d → f < chunk
    → stack_at d t f z ≡ bit_xor (stack_at d a.t.now f z) (xor_sum (2 * (l.k + 1)) (up_to (degree_of d) (plane_times d v S χ m f z))) in
    let step : (length c.if-k-r.t ≡ length l.t) × Added c.if-k-r.t =
    elim c.if-k-r.branch [
      | then-k-r w ↦ rw w.t-is (
        w.absorb_two.auto.t,
        (λ d S v χ m f z is weighed masks narrow h.
            two-more d (stack_at d a.t.now f z) (stack_at d l.t f z) l.k (plane_times d v S χ m f z) (l.invariant.1 d S v χ m f z is weighed masks narrow h) _ (omega (arith, is, w.if-k-r.true)) (w.absorb_two.ensures d S v χ m f z weighed masks narrow h)),
      )
      | else-k-r w ↦ rw w.t-is (
        refl,
        (λ d S v χ m f z is weighed masks narrow h.
            none_more d (stack_at d a.t.now f z) (stack_at d l.t f z) l.k (plane_times d v S χ m f z) (l.invariant.1 d S v χ m f z is weighed masks narrow h) (omega (arith, is, w.if-k-r.false))),
      )
    ] in
    (step.0 ∙ l.invariant.0, step.1)

pub returns : goal.returns
returns c =
    let a = c.args in
    let l = c.loop-k in
    let end : l.k ≡ 4 = omega (arith, c.loop-k-test.false) in
    λ d S v χ m f z is weighed masks narrow h.
    (rw end at l.invariant.1) d S v χ m f z is weighed masks narrow h ∙ ap (bit_xor (stack_at d a.t.now f z)) (all-planes d v S χ m f z)
