-- `rows::spare::row_spare` meets its contract. One row is a table of one row.
-- Assumes nothing.
use mathlib.Core.Path.{◌∙◌}
use Rattle.rows.proofs.SpareLaws.{one-row}
use Rattle.rows.proofs.spare.row_spare.Goals as goal

pub returns : goal.returns
returns c = c.rows_spare.ensures ∙ one-row _ _ c.requires.0
