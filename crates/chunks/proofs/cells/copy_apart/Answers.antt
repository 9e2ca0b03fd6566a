-- `chunks::cells::copy_apart` meets its contract. The invariant: the parts below z are copied.
-- Assumes nothing.
use Prim.Native.Nat.{◌+◌, ◌*◌}
use native.Mathlib.Omega.{arith}
use Rattle.strings.specs.Sums.{byte_at}
use Rattle.strings.proofs.Rows.{rows_more, row-end}
use Rattle.chunks.proofs.cells.copy_apart.Goals as goal

pub overflow_mul-z : goal.overflow_mul-z
overflow_mul-z c =
    let a = c.args in
    omega (arith, row-end c.loop-z.z a.count a.width (omega arith))

pub overflow_add-from : goal.overflow_add-from
overflow_add-from c =
    let a = c.args in
    omega (arith, row-end c.loop-z.z a.count a.width (omega arith))

pub copy_part-requires : goal.copy_part-requires
copy_part-requires c =
    let a = c.args in
    let z = c.loop-z.z in
    (omega (arith, row-end z a.count a.w (omega arith)), omega (arith, row-end z a.count a.width (omega arith)))

pub loop-z-preserved : goal.loop-z-preserved
loop-z-preserved c =
    let a = c.args in
    let l = c.loop-z in
    let done = c.copy_part in
    rows_more (λ i f. byte_at a.src.now (a.from + i * a.width + f)) l.dst done.new.dst l.z a.w l.invariant done.ensures.by_index done.ensures.rows_kept
