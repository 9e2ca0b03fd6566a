-- A finite field whose elements are written as the numbers below its size, at most one byte each.
--   base == the field;  degree == r, where the field has 2^r elements
--   elem x == the element that the number x writes;  byte a == the number that writes a
--   byte-add, elem-xor == the sum of elements is the exclusive or of their numbers
--   mul_byte C x y, pow_byte C x i == product and power, on numbers
-- Assumes nothing.
use Rattle.std.specs.Prelude.{◌≡◌, ℕ, ◌^◌, ◌<◌, ◌≤◌}
use Rattle.std.specs.Int.Bits.{bit_xor}
use Rattle.algebra.specs.Field.{Field}
use Rattle.algebra.specs.Sum.{power}

pub record Coded : Type 1 where
  pub base : Field
  pub degree : ℕ
  pub elem : ℕ → base.R.F
  pub byte : base.R.F → ℕ
  pub size_is : base.size ≡ 2 ^ degree
  pub degree≤8 : degree ≤ 8
  pub elem-byte : (a : base.R.F) → elem (byte a) ≡ a
  pub byte-elem : (x : ℕ) → x < base.size → byte (elem x) ≡ x
  pub byte_lt : (a : base.R.F) → byte a < base.size
  pub elem-zero : elem 0 ≡ base.R.𝟘
  pub elem-one : elem 1 ≡ base.R.𝟙
  pub byte-add : (a b : base.R.F) → byte (base.R.add a b) ≡ bit_xor (byte a) (byte b)
  pub elem_xor : (x y : ℕ) → elem (bit_xor x y) ≡ base.R.add (elem x) (elem y)

abbrev pub mul_byte : Coded → ℕ → ℕ → ℕ
mul_byte C x y = C.byte (C.base.R.mul (C.elem x) (C.elem y))

abbrev pub pow_byte : Coded → ℕ → ℕ → ℕ
pow_byte C x i = C.byte (power C.base.R (C.elem x) i)
