-- `chunks::turns::turn` meets its contract by its three passes.
-- Assumes nothing.
use Rattle.chunks.proofs.TurnLaws.{turned}
use Rattle.chunks.proofs.turns.turn.Goals as goal

pub returns : goal.returns
returns c =
    let a = c.args in
    let first = c.one_pass in
    let second = c.one_pass-2 in
    let third = c.one_pass-3 in
    turned 16 a.rows.now first.new.out second.new.out third.new.out first.ensures second.ensures third.ensures
