-- `lanes::add_masks` meets its contract. The invariant: the coordinates passed are added, each times its power.
-- Assumes nothing.
use Prim.Native.Nat.{ℕ, ◌+◌, ◌<◌}
use mathlib.Core.Path.{◌≡◌}
use lib.Bits.{bit_xor}
use Rattle.algebra.specs.Coded.{mul_byte}
use Rattle.galois.specs.Degrees.{field_of, mask_element_of}
use Rattle.strings.specs.Sums.{byte_at, xor_sum}
use Rattle.lanes.specs.Lanes.{lane_at, first_mask}
use Rattle.lanes.proofs.add_masks.Given as goal

abbrev pub invariant-loop-i : goal.invariant-loop-i
invariant-loop-i l = (e : ℕ) → e < l.s.tau → byte_at l.acc e
    ≡ bit_xor (byte_at l.initial.acc e) (xor_sum l.i (λ k. mul_byte (field_of l.s.degree) (mask_element_of l.s.degree k) (lane_at l.table (first_mask l.s e + k) e)))
