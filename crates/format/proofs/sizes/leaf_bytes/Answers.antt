-- `format::sizes::leaf_bytes` meets its contract. The bits fit by the limits.
-- Assumes nothing.
use native.Mathlib.Omega.{arith}
use Rattle.protocol.specs.Shape.{w_of}
use Rattle.format.specs.Sizes.{setting_for, shape_for}
use Rattle.format.proofs.SizeLaws.{l_most}
use Rattle.format.proofs.sizes.leaf_bytes.Goals as goal

pub bytes_for-requires : goal.bytes_for-requires
bytes_for-requires c = omega (arith, l_most (setting_for c.args.s) (shape_for c.args.s) c.requires)

pub returns : goal.returns
unfolding w_of
returns c = rw (c.bytes_for.ensures, c.leaf_bits.ensures)
