-- Symbols by their two bits, on bytes of GF(256).
--   omega_byte == ω, what symbol 2 stands for;  omega_times x == ω·x
--   symbol_element s c == what symbol c of s stands for: bit 2c plus ω times bit 2c + 1
-- Assumes nothing.
use Rattle.std.specs.Prelude.{List, ℕ, ◌+◌, ◌*◌}
use Rattle.std.specs.Int.Bits.{bit_xor}
use Rattle.algebra.specs.Coded.{mul_byte}
use Rattle.galois.specs.Gf256.{gf256}
use Rattle.protocol.specs.Strings.{bit}

abbrev pub omega_byte : ℕ
omega_byte = 0xBC

abbrev pub omega_times : ℕ → ℕ
omega_times x = mul_byte gf256 omega_byte x

abbrev pub symbol_element : List ℕ → ℕ → ℕ
symbol_element s c = bit_xor (bit s (2 * c)) (bit s (2 * c + 1) * omega_byte)
