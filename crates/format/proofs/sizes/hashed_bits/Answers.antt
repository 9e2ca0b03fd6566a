-- `format::sizes::hashed_bits` meets its contract. Product and sum fit by the limits.
-- Assumes nothing.
use native.Mathlib.Omega.{arith}
use Rattle.protocol.specs.Shape.{k_of}
use Rattle.format.specs.Sizes.{setting_for, shape_for}
use Rattle.format.proofs.SizeLaws.{in-limits, masks-most}
use Rattle.format.proofs.sizes.hashed_bits.Goals as goal

pub overflow_mul-result : goal.overflow_mul-result
overflow_mul-result c =
    let s = c.args.s in
    rw c.degree_of.ensures.0 (omega (arith, masks-most (setting_for s) (shape_for s) c.requires))

pub overflow_add-result : goal.overflow_add-result
overflow_add-result c =
    let s = c.args.s in
    rw c.degree_of.ensures.0 (let b = in-limits (shape_for s) c.requires in omega (arith, masks-most (setting_for s) (shape_for s) c.requires))

pub returns : goal.returns
unfolding k_of
returns c = rw c.degree_of.ensures.0
