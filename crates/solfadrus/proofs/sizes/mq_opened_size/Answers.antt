-- `solfadrus::sizes::mq_opened_size` meets its contract.
-- Assumes nothing.
use Rattle.std.proofs.Common.{rules}
use Rattle.protocol.specs.Shape.{per_opened}
use Rattle.solfadrus.proofs.sizes.mq_opened_size.Goals as goal

pub returns : goal.returns
unfolding per_opened
returns c = search rules
