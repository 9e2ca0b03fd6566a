-- `prover::commit` meets its contract: what is loaded is what the step takes.
-- Assumes nothing.
use Rattle.format.specs.Sizes.{setting_for, shape_for}
use Rattle.prover.proofs.LoadedLaws.{buffers_of}
use Rattle.prover.proofs.commit.Goals as goal

pub load-requires : goal.load-requires
load-requires c =
    (c.requires.in-range, c.requires.of_leaves, buffers_of (setting_for c.args.s) (shape_for c.args.s) c.requires.in-range)

pub commit_into-requires : goal.commit_into-requires
commit_into-requires c =
    record { in-range = c.requires.in-range; witness-length = c.requires.of_witness.witness-length; sums-room = c.load.ensures.buffers.sums-room; out-length = c.requires.of_out }

pub returns : goal.returns
returns c = c.commit_into.ensures c.args.leaves.now c.load.new.table c.load.ensures
