-- `forms_folds::rows::part_rows` meets its contract.
-- Assumes nothing.
use mathlib.Core.Path.{refl}
use native.Mathlib.Omega.{arith}
use Rattle.forms_folds.proofs.SetLaws.{parted}
use Rattle.forms_folds.proofs.rows.part_rows.Goals as goal

pub part-requires : goal.part-requires
part-requires c = omega arith

pub returns : goal.returns
returns c =
    let a = c.args in
    let low = c.copy_apart in
    let high = c.copy_apart-2 in
    parted a.width a.from a.first a.q a.src.now low.new.dst _ high.new.dst c.part.new.cols low.auto.dst refl high.auto.dst low.ensures high.ensures c.part.ensures
