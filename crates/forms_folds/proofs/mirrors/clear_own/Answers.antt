-- `forms_folds::mirrors::clear_own` meets its contract.
-- Assumes nothing.
use borrow.Author.Rules.{rules}
use Rattle.forms_folds.proofs.mirrors.clear_own.Goals as goal

pub returns-then-col-lt-PIECE_SIXTEENS : goal.returns-then-col-lt-PIECE_SIXTEENS
returns-then-col-lt-PIECE_SIXTEENS c =
    let fill = c.fill_part in
    record { j_after = λ few j h. fill.ensures.by_index j h; by_index = λ q j other h. fill.ensures.rows_kept q j (other (search rules)) h }
