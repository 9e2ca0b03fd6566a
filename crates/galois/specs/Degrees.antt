-- The fields by their degree.
--   field_of d == the field of degree d: GF(16) for 4, and GF(256) for any other number;  degree_of d == its degree
--   size_of d == how many elements it has
--   mask_element_of d s == its α^s for s below the degree and 0 from there on, as a byte, where α is the element 02
--   degree == the largest degree
-- Assumes nothing.
use Rattle.std.specs.Prelude.{cond, ℕ, eqb, ltb}
use Rattle.algebra.specs.Coded.{Coded, pow_byte}
use Rattle.galois.specs.Gf256.{gf256}
use Rattle.galois.specs.Gf16.{gf16}

unfoldable pub field_of : ℕ → Coded
field_of d = cond (eqb d gf16.degree) gf16 gf256

unfoldable pub degree_of : ℕ → ℕ
degree_of d = (field_of d).degree

unfoldable pub size_of : ℕ → ℕ
size_of d = (field_of d).base.size

unfoldable pub mask_element_of : ℕ → ℕ → ℕ
mask_element_of d s = cond (ltb s (degree_of d)) (pow_byte (field_of d) 2 s) 0

abbrev pub degree : ℕ
degree = gf256.degree
