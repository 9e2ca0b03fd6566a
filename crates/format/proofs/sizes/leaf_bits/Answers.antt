-- `format::sizes::leaf_bits` meets its contract. The sum fits by the limits.
-- Assumes nothing.
use native.Mathlib.Omega.{arith}
use Rattle.protocol.specs.Shape.{l_of}
use Rattle.format.specs.Sizes.{setting_for, shape_for}
use Rattle.format.proofs.SizeLaws.{in-limits, k-most}
use Rattle.format.proofs.sizes.leaf_bits.Goals as goal

pub overflow_add-result : goal.overflow_add-result
overflow_add-result c = let s = shape_for c.args.s in let b = in-limits s c.requires in omega (arith, k-most (setting_for c.args.s) s c.requires)

pub returns : goal.returns
unfolding l_of
returns c = rw c.hashed_bits.ensures
