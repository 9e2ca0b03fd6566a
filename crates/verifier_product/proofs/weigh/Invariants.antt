-- `verifier_product::weigh` meets its contract. The invariant: the sum of the products passed.
-- Assumes nothing.
use Prim.Native.Nat.{◌*◌}
use mathlib.Core.Path.{◌≡◌}
use Rattle.protocol.specs.Strings.{bit}
use Rattle.strings.specs.Sums.{byte_at, xor_sum}
use Rattle.verifier_product.proofs.weigh.Given as goal

abbrev pub invariant-loop-i : goal.invariant-loop-i
invariant-loop-i l = l.sum ≡ xor_sum l.i (λ k. byte_at l.row k * bit l.y k)
