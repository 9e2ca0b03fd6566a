-- `forms_folds::mirrors::reflect` meets its contract: the mirror image above the column's own sixteen, and 0 in that.
-- Assumes nothing.
use lib.ListN.{drop}
use Rattle.forms_folds.proofs.MirrorLaws.{reflected, reflected-kept}
use Rattle.forms_folds.proofs.mirrors.reflect.Goals as goal

pub returns : goal.returns
returns c =
    let a = c.args in
    let pre = c.requires in
    let turn = c.turn_above in
    let fill = c.clear_own in record {
      reflected = reflected a.k a.col a.count turn.new.turned fill.new.turned pre.2 fill.ensures.by_index a.width (drop a.from a.src.now) turn.ensures.mirrored fill.ensures.j_after;
      rows_kept = reflected-kept a.k a.col a.count turn.new.turned fill.new.turned pre.2 fill.ensures.by_index a.turned.now turn.ensures.rows_kept;
    }
