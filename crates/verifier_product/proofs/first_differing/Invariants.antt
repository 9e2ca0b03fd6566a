-- `verifier_product::first_differing` meets its contract. The invariant: the repetitions passed hold.
-- Assumes nothing.
use Prim.Native.Nat.{ℕ, ◌<◌}
use mathlib.Core.Path.{◌≡◌}
use mathlib.Core.Bool.{true}
use lib.Dec.{eqb}
use lib.Bits.{bit_xor}
use Rattle.algebra.specs.Coded.{mul_byte}
use Rattle.galois.specs.Degrees.{field_of}
use Rattle.strings.specs.Sums.{byte_at}
use Rattle.verifier_product.proofs.first_differing.Given as goal

abbrev pub invariant-loop-e : goal.invariant-loop-e
invariant-loop-e l = (k : ℕ) → k < l.e → eqb (byte_at l.left k) (bit_xor (byte_at l.qs0 k) (mul_byte (field_of l.degree) (byte_at l.qs1 k) (byte_at l.delta k))) ≡ true
