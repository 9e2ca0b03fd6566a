-- GF(16): four bits, modulo X^4 + X + 1.
--   modulus == that polynomial, bit i for X^i;  passes == its tests, computed;  gf16 == the field
--   mask_element s == α^s for s below the degree and 0 from there on, as a byte, where α is the element 02
-- Assumes nothing.
use Rattle.std.specs.Prelude.{cond, ℕ, ltb}
use Rattle.algebra.specs.Bits.{elem}
use Rattle.algebra.specs.BitField.{Passes, computing}
use Rattle.algebra.specs.Coded.{Coded, pow_byte}
use Rattle.algebra.proofs.BitFieldLaws.{coded}

abbrev pub modulus : ℕ
modulus = 0x13

pub passes : Passes 4 (elem 4 modulus)
unfolding computing
passes = record { least? = tt; most? = tt; commutes? = tt; associates? = tt; one? = tt; inverts? = tt }

abbrev pub gf16 : Coded
gf16 = coded 4 (elem 4 modulus) passes

unfoldable pub mask_element : ℕ → ℕ
mask_element s = cond (ltb s gf16.degree) (pow_byte gf16 2 s) 0
