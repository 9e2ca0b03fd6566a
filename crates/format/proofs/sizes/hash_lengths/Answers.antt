-- `format::sizes::hash_lengths` meets its contract. The product fits by the limits.
-- Assumes nothing.
use native.Mathlib.Omega.{arith}
use Rattle.protocol.specs.Sections.{hash_lengths}
use Rattle.format.specs.Sizes.{shape_for}
use Rattle.format.proofs.SizeLaws.{in-limits, hashed_most}
use Rattle.format.proofs.sizes.hash_lengths.Goals as goal

pub bytes_for-requires : goal.bytes_for-requires
bytes_for-requires c = omega (arith, in-limits (shape_for c.args.s) c.requires)

pub overflow_mul-result : goal.overflow_mul-result
overflow_mul-result c = omega (arith, hashed_most (shape_for c.args.s) c.requires)

pub returns : goal.returns
unfolding hash_lengths
returns c = rw c.bytes_for.ensures
