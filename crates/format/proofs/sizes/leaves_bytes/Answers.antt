-- `format::sizes::leaves_bytes` meets its contract. The products fit by the limits.
-- Assumes nothing.
use native.Mathlib.Omega.{arith}
use Rattle.format.specs.Sizes.{setting_for, shape_for}
use Rattle.format.proofs.SizeLaws.{trees_most, leaves-most}
use Rattle.format.proofs.sizes.leaves_bytes.Goals as goal

pub overflow_mul-result : goal.overflow_mul-result
overflow_mul-result c = omega (arith, trees_most (shape_for c.args.s) c.requires.0 c.args.per c.requires.1)

pub overflow_mul-result-2 : goal.overflow_mul-result-2
overflow_mul-result-2 c = rw c.leaf_bytes.ensures (omega (arith, leaves-most (setting_for c.args.s) (shape_for c.args.s) c.requires.0 c.args.per c.requires.1))

pub returns : goal.returns
returns c = rw c.leaf_bytes.ensures
