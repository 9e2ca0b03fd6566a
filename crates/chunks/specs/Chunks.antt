-- Rows of one length, the chunk, side by side in a table.
--   chunk == the bytes of a chunk: sixteen rows of two columns of bytes;  cell_at S i f == byte f of row i;  pair == the
--     bytes of two chunks
--   Masks v masks == masks holds eight masks: byte f of mask b is all ones where bit b of byte f of v is set, and 0
--     elsewhere
--   most_block == the most equations that go through the kernels of the forms at once
-- Assumes nothing.
use Rattle.std.specs.Prelude.{◌≡◌, List, ℕ, ◌+◌, ◌*◌, ◌<◌}
use Rattle.strings.specs.Sums.{byte_at, bit_of, mask_byte}

abbrev pub chunk : ℕ
chunk = 32

abbrev pub pair : ℕ
pair = 64

abbrev pub most_block : ℕ
most_block = 160

abbrev pub cell_at : List ℕ → ℕ → ℕ → ℕ
cell_at S i f = byte_at S (i * chunk + f)

abbrev pub Masks : List ℕ → List ℕ → Type 0
Masks v masks = (b f : ℕ) → b < 8 → f < chunk → byte_at masks (b * chunk + f) ≡ bit_of (byte_at v f) b * mask_byte
