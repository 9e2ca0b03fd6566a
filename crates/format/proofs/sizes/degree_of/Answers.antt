-- `format::sizes::degree_of` meets its contract.
-- Assumes nothing.
use Rattle.galois.specs.Degrees.{degree_of}
use Rattle.galois.proofs.DegreeLaws.{degree-most}
use Rattle.format.proofs.sizes.degree_of.Goals as goal

pub returns : goal.returns
unfolding degree_of
returns c = (c.degree_of.ensures, rw c.degree_of.ensures (degree-most c.args.s.degree))
