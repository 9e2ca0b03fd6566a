-- `forms_columns::gather` meets its contract. The invariant: the planes below s are gathered.
-- Assumes nothing.
use Prim.Native.Nat.{ℕ, ◌+◌, ◌*◌, ◌<◌}
use mathlib.Core.Path.{◌≡◌}
use Rattle.strings.specs.Sums.{byte_at, xor_sum}
use Rattle.lanes.specs.Lanes.{lane_at}
use Rattle.chunks.specs.Chunks.{chunk}
use Rattle.forms_columns.specs.Stacks.{planes}
use Rattle.forms_columns.proofs.gather.Given as goal

abbrev pub invariant-loop-s : goal.invariant-loop-s
invariant-loop-s l =
    (q e : ℕ) → q < l.s → e < l.tau → lane_at l.rows q e ≡ xor_sum 16 (λ f. byte_at l.stacks (e * (planes * chunk) + (q * chunk + l.h * 16 + f)))
