-- `prover::batch` meets its contract: what is loaded is what the step takes.
-- Assumes nothing.
use native.Mathlib.Omega.{arith}
use Rattle.format.specs.Sizes.{setting_for, shape_for}
use Rattle.prover.proofs.LoadedLaws.{loaded_narrow, space_of}
use Rattle.prover.proofs.batch.Goals as goal

pub load-requires : goal.load-requires
load-requires c =
    (c.requires.of-key.in-range, c.requires.of_leaves, space_of (setting_for c.args.s) (shape_for c.args.s) c.requires.of-key.in-range)

pub batch_into-requires : goal.batch_into-requires
batch_into-requires c =
    record { key-facts = c.requires.of-key; witness-form = c.requires.of_witness; batching_length = c.requires.of_batching; buffers = c.load.ensures.buffers; cells_room = omega (arith, c.load.auto.table); narrow = loaded_narrow (setting_for c.args.s) (shape_for c.args.s) c.args.leaves.now _ _ c.load.ensures; out-length = c.requires.of_out }

pub returns : goal.returns
returns c = c.batch_into.ensures c.args.leaves.now c.load.ensures
