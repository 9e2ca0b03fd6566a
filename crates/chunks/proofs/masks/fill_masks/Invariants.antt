-- `chunks::masks::fill_masks` meets its contract. The invariant: the masks below b are filled.
-- Assumes nothing.
use Rattle.std.proofs.Common.{◌*◌}
use Rattle.strings.specs.Sums.{byte_at, bit_of}
use Rattle.strings.proofs.Rows.{RowsAre}
use Rattle.chunks.specs.Chunks.{chunk}
use Rattle.chunks.proofs.masks.fill_masks.Given as goal

abbrev pub invariant-loop-b : goal.invariant-loop-b
invariant-loop-b l = RowsAre (λ i f. bit_of (byte_at l.v f) i * 255) l.masks l.b chunk
