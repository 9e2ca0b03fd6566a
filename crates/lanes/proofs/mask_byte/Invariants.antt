-- `lanes::mask_byte` meets its contract. The invariant: the coordinates passed are added, each times its power.
-- Assumes nothing.
use Prim.Native.Nat.{◌+◌}
use mathlib.Core.Path.{◌≡◌}
use Rattle.algebra.specs.Coded.{mul_byte}
use Rattle.galois.specs.Degrees.{field_of, mask_element_of}
use Rattle.protocol.specs.Strings.{bit}
use Rattle.strings.specs.Sums.{xor_sum}
use Rattle.lanes.proofs.mask_byte.Given as goal

abbrev pub invariant-loop-i : goal.invariant-loop-i
invariant-loop-i l = l.sum ≡ xor_sum l.i (λ k. mul_byte (field_of l.degree) (mask_element_of l.degree k) (bit l.u (l.at + k)))
