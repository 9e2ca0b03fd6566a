-- `forms_sums::sums::fill_sums` meets its contract. The invariant: the groups below g are filled.
-- Assumes nothing.
use Rattle.std.proofs.Common.{◌*◌}
use Rattle.forms_choices.specs.Entries.{Tabled}
use Rattle.forms_sums.proofs.sums.fill_sums.Given as goal

abbrev pub invariant-loop-g : goal.invariant-loop-g
invariant-loop-g l = Tabled l.table l.sums (l.g * 32)
