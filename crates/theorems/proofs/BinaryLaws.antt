-- Bits are a lawful alphabet.
-- Assumes nothing.
use mathlib.Core.Path.{◌≡◌, sym, ap, ◌∙◌}
use Prim.Native.Nat.{ℕ, zero, suc, ◌%◌, ◌<◌}
use native.Mathlib.Nat.{mod-lt, mod-eq_of_lt}
use native.Mathlib.Omega.{arith}
use lib.Dec.{lit<}
use Rattle.algebra.specs.Coded.{Coded}
use Rattle.algebra.proofs.RingLaws.{ring}
use Rattle.protocol.specs.Alphabet.{IsSymbol, Lawful}
use Rattle.protocol.specs.Binary.{binary, bits256}
use Rattle.galois.specs.Gf256.{gf256}
use Rattle.theorems.proofs.StringLaws.{bit_lt, bytes_for_le, length-pack, pack_in, pack-spare, pack_congr, pack-bytes, string_is}

module _ (K : Coded) where
  open K use {base, elem, byte}
  open base use {R}
  open R use {F, 𝟘, 𝟙, add as ◌⊕◌, mul as ◌⊗◌}

  infixl 65 ◌⊕◌
  infixl 70 ◌⊗◌
  abbrev Bit : F → Type 0
  Bit = IsSymbol (binary K)

  zero_bit : Bit 𝟘
  zero_bit = (0, lit< tt, sym K.elem-zero)

  one_bit : Bit 𝟙
  one_bit = (1, lit< tt, sym K.elem-one)

  same : {a b : F} → a ≡ b → Bit b → Bit a
  same e (x, l, g) = (x, l, e ∙ g)

  -- a bit is 𝟘 or 𝟙
  by_cases : (P : F → Type 0) → P 𝟘 → P 𝟙 → (a : F) (x : ℕ) → x < 2 → a ≡ elem x → P a
  by_cases P z o a zero h e = rw (e, K.elem-zero) z
  by_cases P z o a (suc zero) h e = rw (e, K.elem-one) o
  by_cases P z o a (suc (suc x)) h e = absurd (omega arith)

  add-bit : (a b : F) → Bit a → Bit b → Bit (a ⊕ b)
  add-bit a b (x, l, e) (y, m, g) =
      by_cases (λ a. Bit (a ⊕ b))
      (by_cases (λ b. Bit (𝟘 ⊕ b)) (same (simp ring) zero_bit) (same (simp ring) one_bit) b y m g)
      (by_cases (λ b. Bit (𝟙 ⊕ b)) (same (simp ring) one_bit) (same (simp ring) zero_bit) b y m g)
      a x l e

  mul-bit : (a b : F) → Bit a → Bit b → Bit (a ⊗ b)
  mul-bit a b (x, l, e) (y, m, g) =
      by_cases (λ a. Bit (a ⊗ b))
      (same (simp ring) zero_bit)
      (by_cases (λ b. Bit (𝟙 ⊗ b)) (same (simp ring) zero_bit) (same (simp ring) one_bit) b y m g)
      a x l e

  bit-back : (a : F) → Bit a → elem (byte a % 2) ≡ a
  bit-back a (x, l, e) =
      ap (λ b. elem (byte b % 2)) e ∙ ap (λ k. elem (k % 2)) (K.byte-elem x (omega (arith, base.four≤size))) ∙ ap elem (mod-eq_of_lt l) ∙ sym e

  bit-of : (x : ℕ) → x < 2 → byte (elem x) % 2 ≡ x
  bit-of x l = ap (λ k. k % 2) (K.byte-elem x (omega (arith, base.four≤size))) ∙ mod-eq_of_lt l

  pub binary-lawful : Lawful (binary K)
  binary-lawful = record {
    at_lt = bit_lt;
    symbol_lt = λ a. mod-lt (byte a) (lit< tt);
    symbol_back = bit-back;
    zero_symbol = zero_bit;
    one_symbol = one_bit;
    add_symbol = add-bit;
    mul_symbol = mul-bit;
    width_le = bytes_for_le;
    pack-length = length-pack;
    pack-at = pack_in;
    pack-spare = pack-spare;
    masks_le = K.degree≤8;
    symbol-of = bit-of;
    pack_congr = pack_congr;
    pack-bytes = pack-bytes;
    string_is = string_is;
  }

pub bits256-lawful : Lawful bits256
bits256-lawful = binary-lawful gf256
