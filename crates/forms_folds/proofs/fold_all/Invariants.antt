-- `forms_folds::fold_all` meets its contract. The invariant: the sixteens of rows below q are folded, and the other
-- matrices' cells are as they were.
-- Assumes nothing.
use lib.ListN.{drop}
use Rattle.forms_folds.specs.Sets.{SetFolded, OthersKept}
use Rattle.forms_folds.proofs.fold_all.Given as goal

abbrev pub invariant-loop-q : goal.invariant-loop-q
invariant-loop-q l =
    SetFolded l.width (drop l.from l.src) l.piece.first l.piece.end l.piece.count l.m l.i l.q l.cells × OthersKept l.m l.i l.initial.cells l.cells
