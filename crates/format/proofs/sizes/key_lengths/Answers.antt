-- `format::sizes::key_lengths` meets its contract. The products fit by the limits.
-- Assumes nothing.
use native.Mathlib.Omega.{arith}
use Rattle.protocol.specs.Key.{key_lengths}
use Rattle.format.specs.Sizes.{shape_for}
use Rattle.format.proofs.SizeLaws.{in-limits, matrix_rows_most, matrices-most, linear-most}
use Rattle.format.proofs.sizes.key_lengths.Goals as goal

pub overflow_mul-result : goal.overflow_mul-result
overflow_mul-result c = omega (arith, matrix_rows_most (shape_for c.args.s) c.requires)

pub overflow_mul-result-2 : goal.overflow_mul-result-2
overflow_mul-result-2 c = rw c.witness_bytes-row.ensures (omega (arith, matrices-most (shape_for c.args.s) c.requires))

pub overflow_mul-result-3 : goal.overflow_mul-result-3
overflow_mul-result-3 c = rw c.witness_bytes-row.ensures (omega (arith, linear-most (shape_for c.args.s) c.requires))

pub bytes_for-requires : goal.bytes_for-requires
bytes_for-requires c = omega (arith, in-limits (shape_for c.args.s) c.requires)

pub returns : goal.returns
unfolding key_lengths
returns c = rw (c.witness_bytes-row.ensures, c.bytes_for.ensures)
