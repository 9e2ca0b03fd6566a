-- `chunks::turns::turn_rows` meets its contract: what is turned is a copy of the rows.
-- Assumes nothing.
use Rattle.chunks.proofs.TurnLaws.{turned-at}
use Rattle.chunks.proofs.turns.turn_rows.Goals as goal

pub returns : goal.returns
returns c =
    let a = c.args in
    let copy = c.copy_apart in
    let turn = c.turn in
    turned-at a.width a.from a.src.now copy.new.dst turn.new.out turn.ensures copy.ensures
