-- `forms_choices::picks::choose_at` meets its contract. The part that was lent is for bit p, and the others stand
-- outside it.
-- Assumes nothing.
use Rattle.std.proofs.Common.{◌+◌, ◌*◌, ◌≤◌, length, ◌∙◌, arith}
use Rattle.chunks.proofs.PartLaws.{part-is, others-kept}
use Rattle.forms_choices.proofs.picks.choose_at.Goals as goal

pub returns : goal.returns
returns c =
    let a = c.args in
    let done = c.choose_both in
    let fits : a.p * 32 + 32 ≤ length a.picks.now = omega arith in record {
      by_index = (λ g h. part-is a.p 32 a.picks.now done.new.plane fits done.auto.plane g h ∙ done.ensures g h);
      rows_kept = others-kept a.p 32 a.picks.now done.new.plane fits done.auto.plane;
    }
