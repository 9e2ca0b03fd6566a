-- `forms_pieces::rows_of` meets its contract, case by case.
-- Assumes nothing.
use mathlib.Core.Path.{sym}
use native.Mathlib.Omega.{arith}
use Rattle.forms_pieces.proofs.PieceLaws.{rows_whole, rows-eight, rows_long, rows_other}
use Rattle.forms_pieces.proofs.rows_of.Goals as goal

pub returns-then-first-le-PANELS : goal.returns-then-first-le-PANELS
returns-then-first-le-PANELS c = let a = c.args in sym (rows_whole a.first a.end (omega arith))

pub returns-then-end-le-PIECE_SIXTEENS : goal.returns-then-end-le-PIECE_SIXTEENS
returns-then-end-le-PIECE_SIXTEENS c = let a = c.args in sym (rows-eight a.first a.end (omega arith) (omega arith))

pub returns-else-end-le-PIECE_SIXTEENS : goal.returns-else-end-le-PIECE_SIXTEENS
returns-else-end-le-PIECE_SIXTEENS c = let a = c.args in sym (rows_long a.first a.end (omega arith) (omega arith))

pub returns-else-first : goal.returns-else-first
returns-else-first c = let a = c.args in sym (rows_other a.first a.end (omega arith) (λ e. omega arith))
