-- `forms_choices::fives::put_row` meets its contract. The part that was lent is row r, and the others stand outside it.
-- Assumes nothing.
use Rattle.std.proofs.Common.{◌∙◌}
use Rattle.chunks.proofs.PartLaws.{part-is, others-kept}
use Rattle.forms_choices.proofs.fives.put_row.Goals as goal

pub returns : goal.returns
returns c =
    let a = c.args in
    let done = c.put in record {
      by_index = (λ k h. part-is a.r 4 a.words.now done.new.row c.requires.0 done.auto.row k h ∙ done.ensures k h);
      rows_kept = others-kept a.r 4 a.words.now done.new.row c.requires.0 done.auto.row;
    }
