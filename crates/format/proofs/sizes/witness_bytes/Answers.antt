-- `format::sizes::witness_bytes` meets its contract. The bits fit by the limits.
-- Assumes nothing.
use native.Mathlib.Omega.{arith}
use Rattle.format.specs.Sizes.{shape_for}
use Rattle.format.proofs.SizeLaws.{in-limits}
use Rattle.format.proofs.sizes.witness_bytes.Goals as goal

pub bytes_for-requires : goal.bytes_for-requires
bytes_for-requires c = omega (arith, in-limits (shape_for c.args.s) c.requires)
