-- From bytes to elements: an exclusive or of numbers is a sum of elements, a bit of such a sum is the sum of the bits,
-- and a bit scales an element.
-- Assumes nothing.
use mathlib.Core.Path.{◌≡◌, refl, sym, ap, ap₂, ◌∙◌}
use mathlib.Core.List.{List}
use Prim.Native.Nat.{ℕ, zero, suc, ◌+◌, ◌*◌, ◌/◌, ◌%◌, ◌^◌, ◌<◌}
use native.Mathlib.Nat.{mod-lt, zero-mul, one-mul, mul-zero, mul-one, mul_comm, zero-div}
use native.Mathlib.Omega.{arith}
use lib.Arith.{digits_div, digits_mod}
use lib.Dec.{lit<}
use lib.Bits.{bit_xor, xor_shr, xor_mod}
use Rattle.algebra.specs.Coded.{Coded}
use Rattle.algebra.specs.Sum.{sum}
use Rattle.algebra.proofs.RingLaws.{mul-zero as times_zero}
use Rattle.protocol.specs.Strings.{bit}
use Rattle.strings.specs.Sums.{byte_at, bit_of, xor_sum}

pub bitOf_lt : (x p : ℕ) → bit_of x p < 2
unfolding bit_of
bitOf_lt x p = mod-lt (x / 2 ^ p) (lit< tt)

pub bitOf_xor : (x y p : ℕ) → bit_of (bit_xor x y) p ≡ bit_xor (bit_of x p) (bit_of y p)
unfolding bit_of
bitOf_xor x y p = ap (λ (z : ℕ). z % 2) (xor_shr x y p) ∙ xor_mod (x / 2 ^ p) (y / 2 ^ p) 1

pub bitOf_zero : (p : ℕ) → bit_of 0 p ≡ 0
unfolding bit_of
bitOf_zero p = ap (λ (z : ℕ). z % 2) (zero-div (2 ^ p))

pub bitOf_sum : (n : ℕ) (f : ℕ → ℕ) (p : ℕ) → bit_of (xor_sum n f) p ≡ xor_sum n (λ j. bit_of (f j) p)
unfolding xor_sum
bitOf_sum zero f p = bitOf_zero p
bitOf_sum (suc k) f p = bitOf_xor (xor_sum k f) (f k) p ∙ ap (λ (z : ℕ). bit_xor z (bit_of (f k) p)) (bitOf_sum k f p)

pub bit-times : (q x p : ℕ) → q < 2 → bit_of (q * x) p ≡ q * bit_of x p
bit-times zero x p h = ap (λ (z : ℕ). bit_of z p) (zero-mul x) ∙ bitOf_zero p ∙ sym (zero-mul (bit_of x p))
bit-times (suc zero) x p h = ap (λ (z : ℕ). bit_of z p) (one-mul x) ∙ sym (one-mul (bit_of x p))
bit-times (suc (suc q)) x p h = absurd (omega arith)

pub times-bit : (q x p : ℕ) → q < 2 → bit_of (x * q) p ≡ bit_of x p * q
times-bit zero x p h = ap (λ (z : ℕ). bit_of z p) (mul-zero x) ∙ bitOf_zero p ∙ sym (mul-zero (bit_of x p))
times-bit (suc zero) x p h = ap (λ (z : ℕ). bit_of z p) (mul-one x) ∙ sym (mul-one (bit_of x p))
times-bit (suc (suc q)) x p h = absurd (omega arith)

-- coordinate c of a bit string is a bit of one of its bytes
pub bit_is : (s : List ℕ) (c : ℕ) → bit s c ≡ bit_of (byte_at s (c / 8)) (c % 8)
unfolding bit bit_of
bit_is s c = refl

pub bit-place : (s : List ℕ) (b p : ℕ) → p < 8 → bit s (b * 8 + p) ≡ bit_of (byte_at s b) p
bit-place s b p h = bit_is s (b * 8 + p) ∙ ap₂ (λ (q r : ℕ). bit_of (byte_at s q) r) (digits_div b h) (digits_mod b h)

module _ (C : Coded) where
  open C use {base, elem, byte}
  open base use {R}
  open R use {F, 𝟙, add as ◌⊕◌, mul as ◌⊗◌}

  infixl 65 ◌⊕◌
  infixl 70 ◌⊗◌
  pub elem-sum : (n : ℕ) (f : ℕ → ℕ) → elem (xor_sum n f) ≡ sum R n (λ j. elem (f j))
  unfolding xor_sum
  elem-sum zero f = C.elem-zero
  elem-sum (suc k) f = C.elem_xor (xor_sum k f) (f k) ∙ ap (λ (x : F). x ⊕ elem (f k)) (elem-sum k f)

  pub byte-sum : (n : ℕ) (f : ℕ → F) → byte (sum R n f) ≡ xor_sum n (λ j. byte (f j))
  unfolding xor_sum
  byte-sum zero f = ap byte (sym C.elem-zero) ∙ C.byte-elem 0 (omega (arith, base.four≤size))
  byte-sum (suc k) f = C.byte-add (sum R k f) (f k) ∙ ap (λ (x : ℕ). bit_xor x (byte (f k))) (byte-sum k f)

  pub byte-bit : (q : ℕ) → q < 2 → byte (elem q) ≡ q
  byte-bit q h = C.byte-elem q (omega (arith, base.four≤size))

  -- an element times a bit
  pub byte-times : (x q : ℕ) → x < base.size → q < 2 → byte (elem x ⊗ elem q) ≡ x * q
  byte-times x zero h k = ap byte (ap (λ y. elem x ⊗ y) C.elem-zero ∙ times_zero R (elem x) ∙ sym C.elem-zero) ∙ byte-bit 0 (lit< tt) ∙ sym (mul-zero x)
  byte-times x (suc zero) h k = ap byte (ap (λ y. elem x ⊗ y) C.elem-one ∙ R.mul-one (elem x)) ∙ C.byte-elem x h ∙ sym (mul-one x)
  byte-times x (suc (suc q)) h k = absurd (omega arith)

  pub byte-scale : (q : ℕ) (a : F) → q < 2 → byte (elem q ⊗ a) ≡ q * byte a
  byte-scale q a h =
      ap (λ y. byte (elem q ⊗ y)) (sym (C.elem-byte a)) ∙ ap byte (R.mul_comm (elem q) (elem (byte a))) ∙ byte-times (byte a) q (C.byte_lt a) h ∙ mul_comm (byte a) q
