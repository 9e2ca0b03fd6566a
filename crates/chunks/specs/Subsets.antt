-- The sums of all choices from each group of rows of a table, in a table of their own.
--   chosen_byte T w size g v f == byte f of the sum of those of the rows size·g + s, s < size, of w bytes, whose bit s
--     is set in v
--   GroupFilled T w size entries g sums == sums holds, for each v below entries, the sum that v chooses from group g,
--     group after group
-- Assumes nothing.
use Rattle.std.specs.Prelude.{◌≡◌, List, ℕ, ◌+◌, ◌*◌, ◌<◌}
use Rattle.strings.specs.Sums.{byte_at, bit_of, xor_sum}

abbrev pub chosen_byte : List ℕ → ℕ → ℕ → ℕ → ℕ → ℕ → ℕ
chosen_byte T w size g v f = xor_sum size (λ s. bit_of v s * byte_at T ((g * size + s) * w + f))

abbrev pub GroupFilled : List ℕ → ℕ → ℕ → ℕ → ℕ → List ℕ → Type 0
GroupFilled T w size entries g sums = (v f : ℕ) → v < entries → f < w → byte_at sums ((g * entries + v) * w + f) ≡ chosen_byte T w size g v f
