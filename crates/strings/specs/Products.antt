-- The product of two rows of bits over GF(2).
--   bit_product n row x == Σ_{c<n} row_c·x_c over GF(2)
-- Assumes nothing.
use Rattle.std.specs.Prelude.{List, ℕ, ◌*◌}
use Rattle.protocol.specs.Strings.{bit}
use Rattle.strings.specs.Sums.{xor_sum}

abbrev pub bit_product : ℕ → List ℕ → List ℕ → ℕ
bit_product n row x = xor_sum n (λ c. bit row c * bit x c)
