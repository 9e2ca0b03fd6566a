-- `forms_batching::stacks::turn_sixteens` meets its contract. The invariant: the coordinates of the first c sixteens
-- are there.
-- Assumes nothing.
use Prim.Native.Nat.{ℕ, ◌*◌, ◌<◌}
use mathlib.Core.Path.{◌≡◌}
use Rattle.lanes.specs.Lanes.{lane_at}
use Rattle.forms_columns.specs.Stacks.{coordinate_of}
use Rattle.forms_batching.proofs.stacks.turn_sixteens.Given as goal

abbrev pub invariant-loop-c : goal.invariant-loop-c
invariant-loop-c l = let vectors = l.vectors in let c = l.c in ((e k : ℕ) → e < l.tau → k < c * 16 → coordinate_of vectors e k ≡ lane_at l.table k e)
