-- `forms_choices::picks::fill_rows` meets its contract. The part that was lent is for the sixteen fives h, and the
-- other stands outside it.
-- Assumes nothing.
use Rattle.std.proofs.Common.{◌+◌, ◌*◌, ◌/◌, ◌%◌, ◌≤◌, length, ◌∙◌, arith}
use Rattle.chunks.proofs.PartLaws.{part-is, others-kept}
use Rattle.forms_choices.proofs.picks.fill_rows.Goals as goal

pub returns : goal.returns
returns c =
    let a = c.args in
    let done = c.part in
    let fits : a.h * 128 + 128 ≤ length a.rows.now = omega arith in record {
      by_index = (λ i h. part-is a.h 128 a.rows.now done.new.cols fits done.auto.cols i h ∙ done.ensures i h ∙ c.copy_apart.ensures (i % 16) (i / 16) (omega arith) (omega arith));
      rows_kept = others-kept a.h 128 a.rows.now done.new.cols fits done.auto.cols;
    }
