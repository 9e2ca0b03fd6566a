-- `chunks::turns::one_pass` meets its contract: an exchange, merged.
-- Assumes nothing.
use Rattle.chunks.proofs.PassLaws.{pass_is}
use Rattle.chunks.proofs.turns.one_pass.Goals as goal

pub returns : goal.returns
returns c =
    let a = c.args in
    let exchange = c.exchange in
    pass_is a.s a.rows.now exchange.new.out c.merge.new.out exchange.ensures c.merge.ensures
