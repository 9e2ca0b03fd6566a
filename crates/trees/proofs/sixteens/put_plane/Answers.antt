-- `trees::sixteens::put_plane` meets its contract: plane p stands whole in the planes where p is below r.
-- Assumes nothing.
use Rattle.std.proofs.Common.{arith}
use Rattle.strings.proofs.Rows.{row-end}
use Rattle.trees.proofs.sixteens.put_plane.Goals as goal

pub overflow_mul-p : goal.overflow_mul-p
overflow_mul-p c = let a = c.args in omega (arith, row-end a.p a.r a.w (omega arith), c.requires.0)

pub overflow_add-p : goal.overflow_add-p
overflow_add-p c = let a = c.args in omega (arith, row-end a.p a.r a.w (omega arith), c.requires.0)

pub put_sixteen-requires : goal.put_sixteen-requires
put_sixteen-requires c = let a = c.args in omega (arith, row-end a.p a.r a.w (omega arith), c.requires.0)
