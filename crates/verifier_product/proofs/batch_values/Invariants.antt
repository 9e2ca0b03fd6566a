-- `verifier_product::batch_values` meets its contract. Each element is changed once (`Elementwise`).
-- Assumes nothing.
use mathlib.Core.Path.{◌≡◌}
use Rattle.strings.proofs.Elementwise.{changed}
use Rattle.verifier_product.specs.Product.{value_byte}
use Rattle.verifier_product.proofs.batch_values.Given as goal

abbrev pub invariant-loop-e : goal.invariant-loop-e
invariant-loop-e l = l.out ≡ changed (λ k z. value_byte l.m l.chi l.y k) l.initial.out l.e
