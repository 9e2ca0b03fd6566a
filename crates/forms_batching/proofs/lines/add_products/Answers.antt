-- `forms_batching::lines::add_products` meets its contract. The invariant: the products of the repetitions below e are
-- added, and the other places are as they were.
-- Assumes nothing.
use Prim.Native.Nat.{◌<◌}
use mathlib.Core.Logic.{⊎_elim}
use mathlib.Core.Path.{◌≡◌, refl, ap₂, ◌∙◌}
use native.Mathlib.Nat.{eq-or-lt_of_le, le_of_suc-le-suc}
use native.Mathlib.Numerals.{add-one}
use native.Mathlib.Omega.{arith}
use lib.Seq.{get_or-set_same, get_or-set_other}
use lib.Bits.{bit_xor}
use Rattle.strings.specs.Sums.{byte_at}
use Rattle.forms_batching.proofs.lines.add_products.Goals as goal

pub loop-e-init : goal.loop-e-init
loop-e-init c = ((λ S χ m d w h. absurd (omega arith)), λ d h. refl)

pub line_product-requires : goal.line_product-requires
line_product-requires c =
    let pre = c.requires in
    let lt = c.loop-e-test.true in
    (omega (arith, pre.1, lt), omega (arith, pre.0, lt), pre.2, pre.3, omega (arith, pre.4, lt), pre.5, pre.6)

pub loop-e-preserved : goal.loop-e-preserved
loop-e-preserved c =
    let a = c.args in
    let l = c.loop-e in
    let done = c.line_product in
    let new = bit_xor (byte_at l.mid l.e) done.result in (
      (λ S χ m d weighed h.
          ⊎_elim
          (λ (e : d ≡ l.e). rw e (get_or-set_same l.mid l.e new 0 (omega arith) ∙ ap₂ bit_xor (l.invariant.1 l.e (omega arith)) (done.ensures S (χ l.e) m (weighed l.e (omega arith)))))
          (λ (lt : d < l.e). get_or-set_other l.mid l.e d new 0 (λ e. omega (arith, lt, e)) ∙ l.invariant.0 S χ m d weighed lt)
          (eq-or-lt_of_le (le_of_suc-le-suc (rw add-one at h)))),
      (λ d h. get_or-set_other l.mid l.e d new 0 (λ e. omega (arith, h, e)) ∙ l.invariant.1 d (omega arith)),
    )

pub returns : goal.returns
returns c =
    let l = c.loop-e in
    let end : l.e ≡ c.args.tau = omega arith in
    rw end at l.invariant.0
