-- The laws of ω: a symbol is its first bit plus ω times its second; and sums over the bits of a string of symbols are
-- sums over the symbols.
-- Assumes nothing.
use mathlib.Core.Path.{◌≡◌, refl, sym, ap, ap₂, ◌∙◌}
use mathlib.Core.List.{List}
use Prim.Native.Nat.{ℕ, zero, suc, ◌+◌, ◌*◌, ◌<◌}
use native.Mathlib.Nat.{mul_comm}
use native.Mathlib.Omega.{arith}
use lib.Dec.{lit<}
use lib.Bits.{bit_xor}
use Rattle.algebra.specs.Ring.{Ring}
use Rattle.algebra.specs.BitField.{computing}
use Rattle.algebra.specs.Sum.{sum}
use Rattle.algebra.proofs.RingLaws.{ring}
use Rattle.algebra.proofs.SumLaws.{sum_ext}
use Rattle.galois.specs.Gf256.{gf256}
use Rattle.protocol.specs.Strings.{bit}
use Rattle.protocol.specs.Alphabet.{sym as symbol}
use Rattle.protocol.specs.Quaternary.{symbol_byte, symbol_at, fours256}
use Rattle.theorems.proofs.StringLaws.{bit_lt}
use Rattle.strings.specs.Sums.{xor_sum}
use Rattle.strings.proofs.Meaning.{byte-bit, byte-times}
use Rattle.strings.proofs.XorLaws.{xor_assoc}
use Rattle.symbols.specs.Omega.{omega_byte, omega_times, symbol_element}

abbrev pub R : Ring
R = gf256.base.R

abbrev pub F : Type 0
F = gf256.base.R.F

abbrev pub ω : F
ω = gf256.elem omega_byte

pub omega_square : R.mul ω ω ≡ R.add ω R.𝟙
unfolding computing
omega_square = refl

-- what holds of the two bits
by_two : (P : ℕ → Type 0) → P 0 → P 1 → (x : ℕ) → x < 2 → P x
by_two P a b zero l = a
by_two P a b (suc zero) l = b
by_two P a b (suc (suc x)) l = absurd (omega arith)

abbrev Split : ℕ → ℕ → Type 0
Split a b = gf256.elem (symbol_byte (a + 2 * b)) ≡ R.add (gf256.elem a) (R.mul ω (gf256.elem b))

pub symbol_split : (a : ℕ) → a < 2 → (b : ℕ) → b < 2 → Split a b
unfolding computing symbol_byte
symbol_split a l b k = by_two (λ x. Split x b) (by_two (Split 0) refl refl b k) (by_two (Split 1) refl refl b k) a l

pub symbol_sum : (s : List ℕ) (c : ℕ) → symbol fours256 s c ≡ R.add (gf256.elem (bit s (2 * c))) (R.mul ω (gf256.elem (bit s (2 * c + 1))))
unfolding symbol symbol_at
symbol_sum s c = symbol_split (bit s (2 * c)) (bit_lt s (2 * c)) (bit s (2 * c + 1)) (bit_lt s (2 * c + 1))

-- a bit times ω, as a byte
pub omega_bit : (q : ℕ) → q < 2 → gf256.byte (R.mul ω (gf256.elem q)) ≡ q * omega_byte
omega_bit q h = byte-times gf256 omega_byte q (lit< tt) h ∙ mul_comm omega_byte q

pub symbol_byte_lem : (s : List ℕ) (c : ℕ) → symbol_element s c ≡ gf256.byte (symbol fours256 s c)
symbol_byte_lem s c =
    ap₂ bit_xor (sym (byte-bit gf256 (bit s (2 * c)) (bit_lt s (2 * c)))) (sym (omega_bit (bit s (2 * c + 1)) (bit_lt s (2 * c + 1))))
    ∙ sym (gf256.byte-add _ _)
    ∙ ap gf256.byte (sym (symbol_sum s c))

-- ω·x on bytes is ω times the element
pub omega_times_lem : (a : F) → omega_times (gf256.byte a) ≡ gf256.byte (R.mul ω a)
omega_times_lem a = ap (λ z. gf256.byte (R.mul ω z)) (gf256.elem-byte a)

-- ---- a sum over pairs

pub sum-pairs : (S : Ring) (n : ℕ) (f : ℕ → S.F) → sum S (2 * n) f ≡ sum S n (λ c. S.add (f (2 * c)) (f (2 * c + 1)))
sum-pairs S zero f = refl
sum-pairs S (suc n) f =
    let two : 2 * suc n ≡ suc (suc (2 * n)) = omega arith in
    let next : suc (2 * n) ≡ 2 * n + 1 = omega arith in
    ap (λ k. sum S k f) two
    ∙ S.add_assoc (sum S (2 * n) f) (f (2 * n)) (f (suc (2 * n)))
    ∙ ap₂ S.add (sum-pairs S n f) (ap (λ k. S.add (f (2 * n)) (f k)) next)

pub xor_pairs : (n : ℕ) (f : ℕ → ℕ) → xor_sum (2 * n) f ≡ xor_sum n (λ c. bit_xor (f (2 * c)) (f (2 * c + 1)))
unfolding xor_sum
xor_pairs zero f = refl
xor_pairs (suc n) f =
    let two : 2 * suc n ≡ suc (suc (2 * n)) = omega arith in
    let next : suc (2 * n) ≡ 2 * n + 1 = omega arith in
    ap (λ k. xor_sum k f) two
    ∙ xor_assoc (xor_sum (2 * n) f) (f (2 * n)) (f (suc (2 * n)))
    ∙ ap₂ bit_xor (xor_pairs n f) (ap (λ k. bit_xor (f (2 * n)) (f k)) next)

-- a product with a sum of two, whatever the ring
split-product : (S : Ring) (a b w y : S.F) → S.mul (S.add a (S.mul w b)) y ≡ S.add (S.mul a y) (S.mul b (S.mul w y))
split-product S a b w y = simp ring

-- a row of symbols times a vector, by its bits
pub row-pairs : (n : ℕ) (row : List ℕ) (f : ℕ → F)
    → sum R n (λ c. R.mul (symbol fours256 row c) (f c))
    ≡ sum R n (λ c. R.add (R.mul (gf256.elem (bit row (2 * c))) (f c)) (R.mul (gf256.elem (bit row (2 * c + 1))) (R.mul ω (f c))))
row-pairs n row f =
    sum_ext R n _ _ (λ c. ap (λ z. R.mul z (f c)) (symbol_sum row c) ∙ split-product R (gf256.elem (bit row (2 * c))) (gf256.elem (bit row (2 * c + 1))) ω (f c))
