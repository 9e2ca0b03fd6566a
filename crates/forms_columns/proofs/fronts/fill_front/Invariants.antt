-- `forms_columns::fronts::fill_front` meets its contract. The invariant: the first sixteens of repetitions are filled.
-- Assumes nothing.
use Prim.Native.Nat.{◌*◌}
use Rattle.forms_columns.specs.Stacks.{FrontIs}
use Rattle.forms_columns.proofs.fronts.fill_front.Given as goal

abbrev pub invariant-loop-b : goal.invariant-loop-b
invariant-loop-b l = FrontIs (l.b * 16) l.vectors l.first l.front
