-- `prover::hash` meets its contract: what is loaded is what the step takes.
-- Assumes nothing.
use Rattle.format.specs.Sizes.{setting_for, shape_for}
use Rattle.prover.proofs.LoadedLaws.{buffers_of}
use Rattle.prover.proofs.hash.Goals as goal

pub load-requires : goal.load-requires
load-requires c =
    (c.requires.in-range, c.requires.of_leaves, buffers_of (setting_for c.args.s) (shape_for c.args.s) c.requires.in-range)

pub hash_into-requires : goal.hash_into-requires
hash_into-requires c =
    record { in-range = c.requires.in-range; hash-form = c.requires.of_hash; buffers = c.load.ensures.buffers; out-length = c.requires.of_out }

pub returns : goal.returns
returns c = c.hash_into.ensures c.args.leaves.now c.load.ensures
