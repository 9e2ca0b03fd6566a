-- `chunks::cells::copy_part` meets its contract. The part that was lent is part g, and the others stand outside it.
-- Assumes nothing.
use Rattle.std.proofs.Common.{◌∙◌, arith}
use Rattle.chunks.proofs.PartLaws.{part-is, others-kept}
use Rattle.chunks.proofs.cells.copy_part.Goals as goal

pub returns : goal.returns
returns c =
    let a = c.args in
    let copied = c.copy_front in record {
      by_index = (λ f h. part-is a.g a.w a.dst.now copied.new.dst c.requires.0 copied.auto.dst f h ∙ copied.ensures.by_index f h);
      rows_kept = others-kept a.g a.w a.dst.now copied.new.dst c.requires.0 copied.auto.dst;
    }
