-- `chunks::turns::exchange` meets its contract. The invariant: the first j bytes of each half are exchanged.
-- Assumes nothing.
use Rattle.std.proofs.Common.{refl, arith}
use Rattle.chunks.proofs.PassLaws.{exchanged_more}
use Rattle.chunks.proofs.turns.exchange.Goals as goal

pub loop-j-preserved : goal.loop-j-preserved
loop-j-preserved c =
    let a = c.args in
    let l = c.loop-j in
    exchanged_more a.s a.mask l.j _ _ a.rows.now l.out c.requires.1 (omega arith) (omega arith) refl refl l.invariant
