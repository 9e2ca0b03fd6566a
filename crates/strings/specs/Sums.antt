-- Sums of bytes, as the contracts of the loops cite them.
--   byte_at s i == byte i of the string s, 0 past its end;  bit_of x p == bit p of the number x
--   xor_sum n f == f 0 + … + f (n - 1), the sum being exclusive or
--   selected n row table width b == byte b of the sum of those of the n rows of a table whose bit is set in the bit
--     string `row`
--   byte_values == the values of a byte;  mask_byte == the mask of a bit that is set: all bits of a byte
-- Assumes nothing.
use Rattle.std.specs.Prelude.{List, ℕ, zero, suc, ◌+◌, ◌*◌, ◌/◌, ◌%◌, ◌^◌, get_or}
use Rattle.std.specs.Int.Bits.{bit_xor}
use Rattle.protocol.specs.Strings.{bit}

abbrev pub byte_values : ℕ
byte_values = 256

abbrev pub mask_byte : ℕ
mask_byte = 255

abbrev pub byte_at : List ℕ → ℕ → ℕ
byte_at s i = get_or s i 0

unfoldable pub bit_of : ℕ → ℕ → ℕ
bit_of x p = x / 2 ^ p % 2

unfoldable pub xor_sum : ℕ → (ℕ → ℕ) → ℕ
xor_sum zero f = 0
xor_sum (suc k) f = bit_xor (xor_sum k f) (f k)

abbrev pub selected : ℕ → List ℕ → List ℕ → ℕ → ℕ → ℕ
selected n row table width b = xor_sum n (λ c. bit row c * byte_at table (c * width + b))
