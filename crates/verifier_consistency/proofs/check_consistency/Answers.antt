-- `verifier_consistency::check_consistency` meets its contract: the buffer holds the hashes of the largest key, and so
-- those of this one.
-- Assumes nothing.
use mathlib.Core.Path.{sym}
use Prim.Native.Nat.{◌*◌}
use native.Mathlib.Omega.{arith}
use Rattle.protocol.specs.Shape.{most_repetitions, most_hash_rows}
use Rattle.format.specs.Sizes.{setting_for, shape_for}
use Rattle.format.proofs.FitLaws.{room}
use Rattle.sections.proofs.Writes.{prefix_length}
use Rattle.verifier_consistency.proofs.check_consistency.Goals as goal

pub overflow_mul-hashed : goal.overflow_mul-hashed
overflow_mul-hashed c =
    omega (arith, (room (setting_for c.args.s) (shape_for c.args.s) c.requires.s_value.0).hashed_room)

pub slice_bounds-hashed-end : goal.slice_bounds-hashed-end
slice_bounds-hashed-end c =
    (room (setting_for c.args.s) (shape_for c.args.s) c.requires.s_value.0).hashed_room

pub slice_bounds-check_hashed-end : goal.slice_bounds-check_hashed-end
slice_bounds-check_hashed-end c =
    sym (prefix_length (c.args.s.tau * c.args.s.t) (most_repetitions * most_hash_rows) (room (setting_for c.args.s) (shape_for c.args.s) c.requires.s_value.0).hashed_room)

pub check_hashed-requires : goal.check_hashed-requires
check_hashed-requires c =
    record { s_value = c.requires.s_value; table_len = (c.requires.table_len, prefix_length (c.args.s.tau * c.args.s.t) (most_repetitions * most_hash_rows) (room (setting_for c.args.s) (shape_for c.args.s) c.requires.s_value.0).hashed_room); delta_value = c.requires.delta_value }

pub returns : goal.returns
returns c = c.check_hashed.ensures
