-- Bit strings, as 01 writes them: L bits take ⌈L/8⌉ bytes; coordinate c is bit c mod 8, bit 0 lowest, of byte ⌊c/8⌋;
-- bits past the last are spare.
--   bytes_for L == ⌈L/8⌉;  bit s c == coordinate c of s, 0 past the end;  spare_zero s L == the bits of s from L on are 0
--   pack L f == the string whose coordinates are f 0, .., f (L - 1) and whose spare bits are 0
--   from_bits n g == the number with the bits g 0, .., g (n - 1), lowest first;  bytes s == each entry of s is below 256
-- Assumes nothing.
use Rattle.std.specs.Prelude.{Bool, cond, List, ℕ, zero, suc, ◌+◌, ◌*◌, ◌/◌, ◌%◌, ◌^◌, ◌-◌, ◌<◌, eqb, ltb, get_or, length}
use Rattle.protocol.specs.Lists.{table, all_below}

unfoldable pub bytes_for : ℕ → ℕ
bytes_for L = (L + 7) / 8

unfoldable pub bit : List ℕ → ℕ → ℕ
bit s c = get_or s (c / 8) 0 / 2 ^ (c % 8) % 2

unfoldable pub spare_zero : List ℕ → ℕ → Bool
spare_zero s L = all_below (length s * 8 - L) (λ i. eqb (bit s (L + i)) 0)

unfoldable pub from_bits : ℕ → (ℕ → ℕ) → ℕ
from_bits zero g = 0
from_bits (suc n) g = g 0 + 2 * from_bits n (λ i. g (suc i))

unfoldable pub pack : ℕ → (ℕ → ℕ) → List ℕ
pack L f = table (bytes_for L) (λ b. from_bits 8 (λ i. cond (ltb (b * 8 + i) L) (f (b * 8 + i)) 0))

-- what a slice of bytes gives by its type
abbrev pub bytes : List ℕ → Type 0
bytes s = (i : ℕ) → i < length s → get_or s i 0 < 256
