-- `format::sizes::proof_lengths` meets its contract. Those of the three steps, one after the other.
-- Assumes nothing.
use Rattle.protocol.specs.Sections.{lengths, commit_lengths, hash_lengths}
use Rattle.format.proofs.sizes.proof_lengths.Goals as goal

pub returns : goal.returns
unfolding lengths commit_lengths hash_lengths
returns c = rw (c.commit_lengths-first.ensures, c.hash_lengths-second.ensures)
