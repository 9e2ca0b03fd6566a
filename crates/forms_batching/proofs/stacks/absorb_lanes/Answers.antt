-- `forms_batching::stacks::absorb_lanes` meets its contract. The invariant: the stacks below e are changed, and the
-- others are as they were.
-- Assumes nothing.
use Prim.Native.Nat.{ℕ, ◌+◌, ◌*◌, ◌<◌}
use mathlib.Core.Path.{◌≡◌, refl, ap, ◌∙◌}
use mathlib.Core.Logic.{⊎_elim}
use native.Mathlib.Nat.{eq-or-lt_of_le, le_of_suc-le-suc}
use native.Mathlib.Numerals.{add-one}
use native.Mathlib.Omega.{arith}
use lib.Bits.{bit_xor}
use Rattle.strings.specs.Sums.{byte_at}
use Rattle.chunks.specs.Chunks.{chunk}
use Rattle.forms_columns.specs.Stacks.{byte_product}
use Rattle.protocol.specs.Shape.{most_variables}
use Rattle.forms_batching.proofs.StackLaws.{stack_same}
use Rattle.forms_batching.proofs.stacks.absorb_lanes.Invariants.{weight}
use Rattle.forms_batching.proofs.stacks.absorb_lanes.Goals as goal

pub loop-e-init : goal.loop-e-init
loop-e-init c =
    ((λ d S χ m q h f z is w narrow lt. absurd (omega arith)), λ q b h k. refl)

pub absorb_lane-requires : goal.absorb_lane-requires
absorb_lane-requires c =
    let pre = c.requires in
    let l = c.loop-e in
    let lt = c.loop-e-test.true in
    (omega (arith, l.auto.stacks, pre.0, lt), omega (arith, pre.1, lt), pre.2, pre.3, omega (arith, pre.4, lt), pre.5, omega (arith, pre.6, lt))

pub loop-e-preserved : goal.loop-e-preserved
loop-e-preserved c =
    let a = c.args in
    let pre = c.requires in
    let l = c.loop-e in
    let lt = c.loop-e-test.true in
    let done = c.absorb_lane in (
      (λ d S χ m q h f z is weighed narrow hq hh hf.
          let inside : h * 16 + f < chunk = omega arith in
          ⊎_elim
          (λ (same : q ≡ l.e).
          rw same
          (done.ensures.by_index d S (χ l.e) m h f z is (weighed l.e lt) (narrow l.e (a.first + f) lt (omega (arith, hf, pre.5))) hh hf
          ∙ ap (λ (x : ℕ). bit_xor x (byte_product d (byte_at a.vectors.now (l.e * most_variables + (a.first + f))) (weight S χ m l.e (h * 16 + f) z)))
          (stack_same d l.stacks a.stacks.now l.e (h * 16 + f) z inside (λ b hb. l.invariant.1 l.e b (omega arith) hb))))
          (λ (less : q < l.e).
          stack_same d done.new.stacks l.stacks q (h * 16 + f) z inside (λ b hb. done.ensures.rows_kept q b (λ x. omega arith) hb)
          ∙ l.invariant.0 d S χ m q h f z is weighed narrow less hh hf)
          (eq-or-lt_of_le (le_of_suc-le-suc (rw add-one at hq)))),
      (λ q b h k. done.ensures.rows_kept q b (λ x. omega arith) k ∙ l.invariant.1 q b (omega arith) k),
    )

pub returns : goal.returns
returns c d S χ m e h f z is weighed narrow he hh hf = c.loop-e.invariant.0 d S χ m e h f z is weighed narrow (omega arith) hh hf
