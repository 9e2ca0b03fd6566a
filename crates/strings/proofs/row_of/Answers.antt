-- `strings::row_of` meets its contract. The part has the length asked for.
-- Assumes nothing.
use Rattle.std.proofs.Common.{arith}
use Rattle.std.proofs.lemmas.Grind.{common_steps}
use Rattle.protocol.specs.Lists.{part, block_at}
use Rattle.strings.proofs.row_of.Goals as goal

pub returns : goal.returns
unfolding block_at part
returns g c = grind (arith, common_steps, c.unwrap.ensures, c.first_chunk.ensures.cases)
