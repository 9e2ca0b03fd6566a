-- `format::sizes::batching_bytes` meets its contract. The product fits by the limits.
-- Assumes nothing.
use native.Mathlib.Omega.{arith}
use Rattle.format.specs.Sizes.{shape_for}
use Rattle.format.proofs.SizeLaws.{batching_most}
use Rattle.format.proofs.sizes.batching_bytes.Goals as goal

pub overflow_mul-result : goal.overflow_mul-result
overflow_mul-result c = omega (arith, batching_most (shape_for c.args.s) c.requires)
