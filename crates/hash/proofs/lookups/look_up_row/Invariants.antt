-- `hash::lookups::look_up_row` meets its contract. The invariant: the entries of the bytes passed are added. What they
-- sum to is `SelectLaws`.
-- Assumes nothing.
use Rattle.std.proofs.Common.{ℕ, ◌≡◌, ◌<◌}
use Rattle.strings.specs.Sums.{byte_at}
use Rattle.lanes.specs.Lanes.{lanes}
use Rattle.hash.specs.Entries.{row_looked_up}
use Rattle.hash.proofs.lookups.look_up_row.Given as goal

abbrev pub invariant-loop-b : goal.invariant-loop-b
invariant-loop-b l = (e : ℕ) → e < lanes → byte_at l.sum e ≡ row_looked_up l.b l.row l.sums e
