-- GF(256): the bytes, modulo X^8 + X^4 + X^3 + X + 1, as in FIPS 197.
--   modulus == that polynomial, bit i for X^i;  passes == its tests, computed;  gf256 == the field
--   mask_element s == α^s for s below the degree and 0 from there on, as a byte, where α is the element 02
-- Assumes nothing.
use Rattle.std.specs.Prelude.{cond, ℕ, ltb}
use Rattle.algebra.specs.Bits.{elem}
use Rattle.algebra.specs.BitField.{Passes, computing}
use Rattle.algebra.specs.Coded.{Coded, pow_byte}
use Rattle.algebra.proofs.BitFieldLaws.{coded}

abbrev pub modulus : ℕ
modulus = 0x11B

pub passes : Passes 8 (elem 8 modulus)
unfolding computing
passes = record { least? = tt; most? = tt; commutes? = tt; associates? = tt; one? = tt; inverts? = tt }

abbrev pub gf256 : Coded
gf256 = coded 8 (elem 8 modulus) passes

unfoldable pub mask_element : ℕ → ℕ
mask_element s = cond (ltb s gf256.degree) (pow_byte gf256 2 s) 0
