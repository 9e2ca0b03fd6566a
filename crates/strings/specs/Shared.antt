-- The count by which the code takes the product of two rows of bits.
--   shared n row x == the ones that row and x share in their first n bytes: each byte of row AND x, its ones counted
--   RowProduct == 01: each product of a row with x is the parity of the ones that row and x share
-- Assumes nothing.
use Rattle.std.specs.Prelude.{◌≡◌, List, ℕ, zero, suc, ◌+◌, ◌*◌, ◌%◌, length}
use Rattle.std.specs.Int.Bits.{bit_and}
use Rattle.std.specs.Int.Count.{ones}
use Rattle.protocol.specs.Strings.{bytes}
use Rattle.strings.specs.Sums.{byte_at}
use Rattle.strings.specs.Products.{bit_product}

unfoldable pub shared : ℕ → List ℕ → List ℕ → ℕ
shared zero row x = 0
shared (suc n) row x = shared n row x + ones (bit_and (byte_at row n) (byte_at x n))

abbrev pub RowProduct : Type 0
RowProduct = (row x : List ℕ) → bytes row → length x ≡ length row → shared (length row) row x % 2 ≡ bit_product (length row * 8) row x
