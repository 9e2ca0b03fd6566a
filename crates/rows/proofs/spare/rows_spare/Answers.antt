-- `rows::spare::rows_spare` meets its contract. Rows of whole bytes have no spare bits.
-- Assumes nothing.
use mathlib.Core.Path.{sym}
use Rattle.rows.proofs.SpareLaws.{whole-bytes}
use Rattle.rows.proofs.spare.rows_spare.Goals as goal

pub returns-then-bits-eq0 : goal.returns-then-bits-eq0
returns-then-bits-eq0 c = sym (whole-bytes _ _ _ c.if-bits-eq0.true)
