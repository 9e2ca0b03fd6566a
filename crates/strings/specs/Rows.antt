-- Rows of w bytes, one after the other in a table.
--   RowAdded w i src old new == row i is as it was, plus src
--   RowsKept w i old new == the other rows are as they were
-- Assumes nothing.
use Rattle.std.specs.Prelude.{◌≡◌, List, ℕ, ◌+◌, ◌*◌, ◌<◌}
use Rattle.std.specs.Int.Bits.{bit_xor}
use Rattle.strings.specs.Sums.{byte_at}

abbrev pub RowAdded : ℕ → ℕ → List ℕ → List ℕ → List ℕ → Type 0
RowAdded w i src old new = (b : ℕ) → b < w → byte_at new (i * w + b) ≡ bit_xor (byte_at old (i * w + b)) (byte_at src b)

abbrev pub RowsKept : ℕ → ℕ → List ℕ → List ℕ → Type 0
RowsKept w i old new = (q b : ℕ) → (q ≡ i → ⊥) → b < w → byte_at new (q * w + b) ≡ byte_at old (q * w + b)
