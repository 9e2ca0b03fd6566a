-- `field::size_of` meets its contract: the size is that of the branch.
-- Assumes nothing.
use Rattle.galois.proofs.DegreeLaws.{size-four, size-other}
use Rattle.field.proofs.size_of.Goals as goal

pub returns-then-degree-eq-DEGREE : goal.returns-then-degree-eq-DEGREE
returns-then-degree-eq-DEGREE c = size-four c.args.degree c.if-degree-eq-DEGREE.true

pub returns-else-degree-eq-DEGREE : goal.returns-else-degree-eq-DEGREE
returns-else-degree-eq-DEGREE c = size-other c.args.degree c.if-degree-eq-DEGREE.false
