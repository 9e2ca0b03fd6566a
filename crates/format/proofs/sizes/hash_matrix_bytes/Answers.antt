-- `format::sizes::hash_matrix_bytes` meets its contract. The product fits by the limits.
-- Assumes nothing.
use native.Mathlib.Omega.{arith}
use Rattle.format.specs.Sizes.{setting_for, shape_for}
use Rattle.format.proofs.SizeLaws.{k-most, hash_matrix_most}
use Rattle.format.proofs.sizes.hash_matrix_bytes.Goals as goal

pub bytes_for-requires : goal.bytes_for-requires
bytes_for-requires c = omega (arith, k-most (setting_for c.args.s) (shape_for c.args.s) c.requires)

pub overflow_mul-result : goal.overflow_mul-result
overflow_mul-result c = rw (c.bytes_for.ensures, c.hashed_bits.ensures) (omega (arith, hash_matrix_most (setting_for c.args.s) (shape_for c.args.s) c.requires))

pub returns : goal.returns
returns c = rw (c.bytes_for.ensures, c.hashed_bits.ensures)
