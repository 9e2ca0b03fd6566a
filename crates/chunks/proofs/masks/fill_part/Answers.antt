-- `chunks::masks::fill_part` meets its contract. The part that was lent is part g, and the others stand outside it.
-- Assumes nothing.
use Rattle.chunks.proofs.PartLaws.{others-kept}
use Rattle.chunks.proofs.masks.fill_part.Goals as goal

pub returns-clause-rows_kept : goal.returns-clause-rows_kept
returns-clause-rows_kept c =
    let a = c.args in
    others-kept a.g a.w a.dst.now c.fill.new.self c.requires c.fill.ensures.len
