-- `forms_columns::weigh` meets its contract. The invariant: the planes below s are added, each times its power of α.
-- Assumes nothing.
use Prim.Native.Nat.{ℕ, ◌*◌, ◌<◌}
use mathlib.Core.Path.{◌≡◌}
use Rattle.strings.specs.Sums.{byte_at, bit_of, xor_sum}
use Rattle.lanes.specs.Lanes.{lanes, lane_at}
use Rattle.forms_columns.specs.Stacks.{alpha, Weights}
use Rattle.forms_columns.proofs.weigh.Given as goal

abbrev pub invariant-loop-s : goal.invariant-loop-s
invariant-loop-s l =
    (d e : ℕ) → Weights d l.weights → e < lanes → byte_at l.u e ≡ xor_sum l.s (λ i. bit_of (lane_at l.rows i e) l.z * alpha d i)
