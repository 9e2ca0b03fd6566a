-- `hash::lookups::fill_sums` meets its contract. The invariant: the groups below g are filled.
-- Assumes nothing.
use Rattle.std.proofs.Common.{◌*◌}
use Rattle.hash.specs.Entries.{LanesTabled}
use Rattle.hash.proofs.lookups.fill_sums.Given as goal

abbrev pub invariant-loop-g : goal.invariant-loop-g
invariant-loop-g l = LanesTabled l.table l.sums (l.g * 16)
