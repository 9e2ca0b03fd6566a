-- `format::sizes::mask_at` meets its contract. Product and sum fit, as what is asked for does.
-- Assumes nothing.
use native.Mathlib.Omega.{arith}
use Rattle.protocol.specs.Shape.{mask_at}
use Rattle.format.proofs.sizes.mask_at.Goals as goal

pub overflow_mul-result : goal.overflow_mul-result
unfolding mask_at
overflow_mul-result c = rw c.degree_of.ensures.0 (omega (arith, c.requires))

pub overflow_add-result : goal.overflow_add-result
unfolding mask_at
overflow_add-result c = rw c.degree_of.ensures.0 (omega (arith, c.requires))

pub returns : goal.returns
unfolding mask_at
returns c = rw c.degree_of.ensures.0
