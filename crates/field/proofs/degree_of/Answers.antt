-- `field::degree_of` meets its contract: the degree is that of the branch.
-- Assumes nothing.
use Rattle.galois.proofs.DegreeLaws.{degree-four, degree-other}
use Rattle.field.proofs.degree_of.Goals as goal

pub returns-then-degree-eq-DEGREE : goal.returns-then-degree-eq-DEGREE
returns-then-degree-eq-DEGREE c = degree-four c.args.degree c.if-degree-eq-DEGREE.true

pub returns-else-degree-eq-DEGREE : goal.returns-else-degree-eq-DEGREE
returns-else-degree-eq-DEGREE c = degree-other c.args.degree c.if-degree-eq-DEGREE.false
