-- `lanes::mask_row` meets its contract. Each element is changed once (`Elementwise`).
-- Assumes nothing.
use Prim.Native.Nat.{ℕ, ◌+◌}
use mathlib.Core.List.{List}
use mathlib.Core.Path.{◌≡◌}
use Rattle.strings.proofs.Elementwise.{changed}
use Rattle.format.specs.declared.sizes.Sizes.{Sizes}
use Rattle.lanes.specs.Lanes.{lane_at, first_mask}
use Rattle.lanes.proofs.mask_row.Given as goal

abbrev pub change : List ℕ → ℕ → Sizes → ℕ → ℕ → ℕ
change table i s k x = lane_at table (first_mask s k + i) k

abbrev pub invariant-loop-e : goal.invariant-loop-e
invariant-loop-e l = l.row ≡ changed (change l.table l.i l.s) l.initial.row l.e
