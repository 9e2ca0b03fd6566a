-- `chunks::masks::fill_masks` meets its contract. The invariant: the masks below b are filled.
-- Assumes nothing.
use Rattle.std.proofs.Common.{◌*◌}
use Rattle.strings.specs.Sums.{byte_at, bit_of}
use Rattle.strings.proofs.Rows.{rows_more}
use Rattle.chunks.specs.Chunks.{chunk}
use Rattle.chunks.proofs.masks.fill_masks.Goals as goal

pub loop-b-preserved : goal.loop-b-preserved
loop-b-preserved c =
    let l = c.loop-b in
    let done = c.fill_mask_at in
    rows_more (λ i f. bit_of (byte_at c.args.v.now f) i * 255) l.masks done.new.masks l.b chunk l.invariant done.ensures.by_index done.ensures.rows_kept
