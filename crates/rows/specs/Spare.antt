-- Spare bits of rows, and bytes that are elements, as the code tests them.
--   bits_spare bits rows s == each of the first `rows` rows of s, of so many bits, has spare bits 0
--   narrow s == each byte of s is below 16, the size of the smaller field
-- Assumes nothing.
use Rattle.std.specs.Prelude.{Bool, List, ℕ, ltb, length, get_or}
use Rattle.galois.specs.Gf16.{gf16}
use Rattle.protocol.specs.Lists.{all_below, block_at}
use Rattle.protocol.specs.Strings.{bytes_for, spare_zero}

unfoldable pub bits_spare : ℕ → ℕ → List ℕ → Bool
bits_spare bits rows s = all_below rows (λ i. spare_zero (block_at s (bytes_for bits) i) bits)

unfoldable pub narrow : List ℕ → Bool
narrow s = all_below (length s) (λ i. ltb (get_or s i 0) gf16.base.size)
