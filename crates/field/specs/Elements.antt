-- How the elements of a field stand in bytes, and the tests of it, which the checker computes at each element.
--   mask_of C s == α^s for s below the degree and 0 from there on, where α is the element 02
--   doubled_mod r m x, product_mod r m a b == X·x and a·b modulo the polynomial m of degree r, on numbers
--   moved r m x == x moved one place up, with the low bits of m in place of the bit that falls out
--   Doubles r m == it is X·x, for each element x
--   in_place s == the number 1 moved s places up, in a byte;  Weighs C == it is α^s, for each s below the degree
-- Assumes nothing.
use Rattle.std.specs.Prelude.{Bool, T, cond, ℕ, ◌*◌, ◌/◌, ◌%◌, ◌^◌, ◌-◌, eqb, ltb}
use Rattle.std.specs.Int.Bits.{bit_xor}
use Rattle.algebra.specs.Bits.{elem, byte}
use Rattle.algebra.specs.BitField.{xtime, mul, computing}
use Rattle.algebra.specs.Coded.{Coded, pow_byte}
use Rattle.algebra.specs.Sum.{power}
use Rattle.algebra.proofs.TestLaws.{every_below}
use Rattle.galois.specs.Gf16.{gf16, modulus as modulus_16}
use Rattle.galois.specs.Gf256.{gf256, modulus as modulus_256}

abbrev pub mask_of : Coded → ℕ → ℕ
mask_of C s = cond (ltb s C.degree) (pow_byte C 2 s) 0

abbrev pub doubled_mod : ℕ → ℕ → ℕ → ℕ
doubled_mod r m x = byte r (xtime r (elem r m) (elem r x))

abbrev pub product_mod : ℕ → ℕ → ℕ → ℕ → ℕ
product_mod r m a b = byte r (mul r (elem r m) (elem r a) (elem r b))

abbrev pub moved : ℕ → ℕ → ℕ → ℕ
moved r m x = bit_xor (x % 2 ^ (r - 1) * 2) (m % 2 ^ r * (x / 2 ^ (r - 1)))

unfoldable pub doubles : ℕ → ℕ → ℕ → Bool
doubles r m x = eqb (moved r m x) (doubled_mod r m x)

unfoldable pub Doubles : ℕ → ℕ → Type 0
Doubles r m = T (every_below (2 ^ r) (doubles r m))

abbrev pub in_place : ℕ → ℕ
in_place s = 1 * 2 ^ s % 2 ^ 8

unfoldable pub weighs : Coded → ℕ → Bool
weighs C s = eqb (in_place s) (pow_byte C 2 s)

unfoldable pub Weighs : Coded → Type 0
Weighs C = T (every_below C.degree (weighs C))

pub doubles_16 : Doubles gf16.degree modulus_16
unfolding Doubles doubles computing
doubles_16 = tt

pub doubles_256 : Doubles gf256.degree modulus_256
unfolding Doubles doubles computing
doubles_256 = tt

pub weighs_16 : Weighs gf16
unfolding Weighs weighs computing power
weighs_16 = tt

pub weighs_256 : Weighs gf256
unfolding Weighs weighs computing power
weighs_256 = tt
