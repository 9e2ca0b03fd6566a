-- `format::sizes::commit_lengths` meets its contract. The product fits by the limits.
-- Assumes nothing.
use native.Mathlib.Omega.{arith}
use Rattle.protocol.specs.Sections.{commit_lengths}
use Rattle.format.specs.Sizes.{setting_for, shape_for}
use Rattle.format.proofs.SizeLaws.{in-limits, corrections_most}
use Rattle.format.proofs.sizes.commit_lengths.Goals as goal

pub overflow_sub-result : goal.overflow_sub-result
overflow_sub-result c = omega (arith, in-limits (shape_for c.args.s) c.requires)

pub overflow_mul-result : goal.overflow_mul-result
overflow_mul-result c = rw c.leaf_bytes.ensures (omega (arith, corrections_most (setting_for c.args.s) (shape_for c.args.s) c.requires))

pub returns : goal.returns
unfolding commit_lengths
returns c = rw (c.leaf_bytes.ensures, c.witness_bytes.ensures)
