-- `chunks::masks::fill_mask_at` meets its contract. The part that was lent is mask b, and the others stand outside it.
-- Assumes nothing.
use Rattle.std.proofs.Common.{◌≡◌, ◌+◌, ◌*◌, ◌≤◌, length, ◌∙◌, arith}
use Rattle.chunks.specs.Chunks.{chunk}
use Rattle.chunks.proofs.PartLaws.{part-is, others-kept}
use Rattle.chunks.proofs.masks.fill_mask_at.Goals as goal

pub returns : goal.returns
returns c =
    let a = c.args in
    let filled = c.fill_mask in
    let fits : a.b * chunk + chunk ≤ length a.masks.now = omega arith in record {
      by_index = (λ i h. part-is a.b chunk a.masks.now filled.new.out fits filled.auto.out i h ∙ filled.ensures i h);
      rows_kept = others-kept a.b chunk a.masks.now filled.new.out fits filled.auto.out;
    }
