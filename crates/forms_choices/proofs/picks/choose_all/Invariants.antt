-- `forms_choices::picks::choose_all` meets its contract. The invariant: the numbers of the bits below p are chosen.
-- Assumes nothing.
use Rattle.strings.proofs.Rows.{RowsAre}
use Rattle.forms_choices.specs.Entries.{choice, in_rows}
use Rattle.forms_choices.proofs.picks.choose_all.Given as goal

abbrev pub invariant-loop-p : goal.invariant-loop-p
invariant-loop-p l = RowsAre (choice (in_rows l.rows)) l.picks l.p 32
