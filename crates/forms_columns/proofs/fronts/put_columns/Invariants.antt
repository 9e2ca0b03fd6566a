-- `forms_columns::fronts::put_columns` meets its contract. The invariant: the columns below k are put, and the parts
-- beside them are as they were.
-- Assumes nothing.
use Rattle.forms_columns.specs.Stacks.{BesideBlock}
use Rattle.forms_columns.proofs.FrontLaws.{Columns}
use Rattle.forms_columns.proofs.fronts.put_columns.Given as goal

abbrev pub invariant-loop-k : goal.invariant-loop-k
invariant-loop-k l = record { put : Columns l.g l.step l.k l.cols l.dst; beside : BesideBlock l.g l.step l.k l.initial.dst l.dst }
