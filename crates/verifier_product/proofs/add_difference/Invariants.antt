-- `verifier_product::add_difference` meets its contract. The invariant: the coordinates passed are changed, and no
-- other.
-- Assumes nothing.
use Prim.Native.Nat.{ℕ, ◌*◌, ◌≤◌, ◌<◌}
use mathlib.Core.Path.{◌≡◌}
use lib.Bits.{bit_xor}
use Rattle.protocol.specs.Strings.{bit}
use Rattle.strings.specs.Sums.{byte_at}
use Rattle.lanes.specs.Lanes.{lanes, lane_at}
use Rattle.verifier_product.proofs.add_difference.Given as goal

abbrev pub invariant-loop-c : goal.invariant-loop-c
invariant-loop-c l =
    ((q e : ℕ) → q < l.c → e < lanes → lane_at l.table q e ≡ bit_xor (lane_at l.initial.table q e) (bit l.d q * byte_at l.delta e))
    × ((q e : ℕ) → l.c ≤ q → e < lanes → lane_at l.table q e ≡ lane_at l.initial.table q e)
