-- `chunks::turns::merge` meets its contract. The invariant: the first 2j bytes are merged.
-- Assumes nothing.
use Rattle.std.proofs.Common.{refl, arith}
use Rattle.chunks.proofs.PassLaws.{merged_more}
use Rattle.chunks.proofs.turns.merge.Goals as goal

pub loop-j-preserved : goal.loop-j-preserved
loop-j-preserved c =
    let a = c.args in
    let l = c.loop-j in
    merged_more l.j _ _ a.rows.now l.out (omega arith) (omega arith) refl refl l.invariant
