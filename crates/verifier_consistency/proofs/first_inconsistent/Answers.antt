-- `verifier_consistency::first_inconsistent` meets its contract. It has room for the masks that it makes.
-- Assumes nothing.
use mathlib.Core.Path.{sym}
use Rattle.protocol.specs.Shape.{most_hash_rows}
use Rattle.sections.proofs.Writes.{prefix_length}
use Rattle.verifier_consistency.proofs.first_inconsistent.Goals as goal

pub slice_bounds-first_masked-end : goal.slice_bounds-first_masked-end
slice_bounds-first_masked-end c =
    sym (prefix_length c.args.t most_hash_rows c.requires.1)

pub first_masked-requires : goal.first_masked-requires
first_masked-requires c =
    (c.requires.0, prefix_length c.args.t most_hash_rows c.requires.1, c.requires.2)
