-- `forms_folds::rows::put_rows` meets its contract. The invariant: the panels below p are put, and the cells beside
-- them are as they were.
-- Assumes nothing.
use Rattle.forms_folds.specs.Sets.{Put, ChunksKept}
use Rattle.forms_folds.proofs.rows.put_rows.Given as goal

abbrev pub invariant-loop-p : goal.invariant-loop-p
invariant-loop-p l = Put l.piece.first l.piece.end l.piece.count l.q l.m l.i l.p l.made l.turned l.cells × ChunksKept l.piece.first l.piece.count l.q l.m l.i l.p l.initial.cells l.cells
