-- The hash of a string of bits, as the code takes it.
--   hash_bit H' u k ρ == row ρ of [H' | identity] times u over GF(2), where the rows of H' have k bits with spare bits 0
-- Assumes nothing.
use Rattle.std.specs.Prelude.{List, ℕ, ◌+◌, ◌*◌}
use Rattle.std.specs.Int.Bits.{bit_xor}
use Rattle.protocol.specs.Lists.{block_at}
use Rattle.protocol.specs.Strings.{bytes_for, bit}
use Rattle.strings.specs.Products.{bit_product}

abbrev pub hash_bit : List ℕ → List ℕ → ℕ → ℕ → ℕ
hash_bit H' u k ρ = bit_xor (bit_product (bytes_for k * 8) (block_at H' (bytes_for k) ρ) u) (bit u (k + ρ))
