-- Bytes side by side, as one number.
--   word_of s at n == the number that n bytes of s write, from `at` on, lowest first
-- Assumes nothing.
use Rattle.std.specs.Prelude.{List, ℕ, zero, suc, ◌+◌, ◌*◌, ◌^◌}
use Rattle.strings.specs.Sums.{byte_at}

unfoldable pub word_of : List ℕ → ℕ → ℕ → ℕ
word_of s at zero = 0
word_of s at (suc n) = byte_at s (at + n) * 2 ^ (8 * n) + word_of s at n
