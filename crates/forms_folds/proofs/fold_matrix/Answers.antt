-- `forms_folds::fold_matrix` meets its contract: what is added to the columns first.
-- Assumes nothing.
use native.Mathlib.Omega.{arith}
use Rattle.forms_folds.proofs.fold_matrix.Goals as goal

pub fold_all-requires : goal.fold_all-requires
fold_all-requires c =
    let pre = c.requires in
    let turned = c.reflect_all in
    ((pre.0, pre.1, pre.2, pre.3, omega (arith, pre.4, turned.auto.turned), pre.5), turned.ensures)
