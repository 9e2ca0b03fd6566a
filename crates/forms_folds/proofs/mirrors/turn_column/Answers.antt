-- `forms_folds::mirrors::turn_column` meets its contract: eight rows stand together, and sixteen bytes of each are the
-- columns below 128.
-- Assumes nothing.
use mathlib.Core.Path.{◌∙◌}
use native.Mathlib.Omega.{arith}
use Rattle.forms_folds.proofs.MirrorLaws.{mirrored, mirrored_few, mirrored-end, part-kept}
use Rattle.forms_folds.proofs.mirrors.turn_column.Goals as goal

pub returns-then-col-gt8 : goal.returns-then-col-gt8
returns-then-col-gt8 c =
    let a = c.args in
    let turn = c.turn_part in
    let end = c.turn_part-then-col-gt8 in
    let first = part-kept a.k 0 a.turned.now turn.new.turned (omega arith) turn.ensures.by_index_2 turn.ensures.by_index_3 in
    let second = part-kept a.k 16 turn.new.turned end.new.turned (omega arith) end.ensures.by_index_2 end.ensures.by_index_3 in record {
      mirrored = mirrored-end a.width a.from a.col a.k a.src.now turn.new.turned a.count end.new.turned (c.requires.3 (omega arith)) turn.ensures.by_index end.ensures.by_index_2 end.ensures.by_index;
      rows_kept = λ x r other hr. second x r other hr ∙ first x r other hr;
    }

pub returns-else-col-gt8 : goal.returns-else-col-gt8
returns-else-col-gt8 c =
    let a = c.args in
    let turn = c.turn_part in record {
      mirrored = mirrored a.width a.from a.col a.k a.src.now turn.new.turned a.count turn.ensures.by_index (omega arith);
      rows_kept = part-kept a.k 0 a.turned.now turn.new.turned (omega arith) turn.ensures.by_index_2 turn.ensures.by_index_3;
    }

pub returns-else-count-gt8 : goal.returns-else-count-gt8
returns-else-count-gt8 c =
    let a = c.args in
    let turn = c.turn_part in record {
      mirrored = mirrored_few a.width a.from a.col a.k a.src.now turn.new.turned a.count turn.ensures.by_index (omega arith);
      rows_kept = part-kept a.k 0 a.turned.now turn.new.turned (omega arith) turn.ensures.by_index_2 turn.ensures.by_index_3;
    }
