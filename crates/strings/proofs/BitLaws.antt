-- Bits of numbers and of strings: a number is the sum of the powers of two that its bits weigh; a number cut to its low
-- bits; a string with one byte changed.
-- Assumes nothing.
use mathlib.Core.Path.{◌≡◌, refl, sym, ap, ap₂, ◌∙◌}
use mathlib.Core.List.{List}
use Prim.Native.Nat.{ℕ, zero, suc, ◌+◌, ◌*◌, ◌^◌, ◌/◌, ◌%◌, ◌-◌, ◌≤◌, ◌<◌}
use native.Mathlib.Nat.{pow-suc, mul_assoc, mul_comm, mul-le-mul, le_refl, mod-eq_of_lt, mod-lt, div-eq_of_lt, mul-mod_left, one-mul}
use lib.Pow.{pow_mono, pow-lt, pow-add, pow_pos, field, mod-mod-pow, shl-shr}
use lib.Dec.{lit<}
use lib.ListN.{length, set, take}
use lib.Seq.{get_or-take, get_or-set_same, get_or-set_other}
use native.Mathlib.Decide.{ℕ_discrete}
use native.Mathlib.Omega.{arith, ne_cases}
use lib.Bits.{bit_and, bit_xor, and_mask, xor_comm, xor_shifted, xor_zero_r}
use Rattle.protocol.specs.Strings.{bytes_for, bit, from_bits}
use Rattle.theorems.proofs.StringLaws.{bits_lt}
use Rattle.strings.specs.Sums.{byte_at, bit_of, xor_sum}
use Rattle.strings.proofs.Meaning.{bitOf_xor, bit_is}

bits_more : (n : ℕ) (g : ℕ → ℕ) → from_bits (suc n) g ≡ g n * 2 ^ n + from_bits n g
unfolding from_bits
bits_more zero g = omega arith
bits_more (suc n) g =
    ap (λ x. g 0 + 2 * x) (bits_more n (λ i. g (suc i)))
    ∙ let e : g (suc n) * 2 ^ suc n ≡ 2 * (g (suc n) * 2 ^ n) = ap (λ x. g (suc n) * x) (pow-suc 2 n) ∙ sym (mul_assoc (g (suc n)) (2 ^ n) 2) ∙ mul_comm (g (suc n) * 2 ^ n) 2 in
    omega (arith, e)

pub bits-sum : (n : ℕ) (g : ℕ → ℕ) → ((i : ℕ) → g i < 2) → xor_sum n (λ p. g p * 2 ^ p) ≡ from_bits n g
unfolding from_bits xor_sum
bits-sum zero g h = refl
bits-sum (suc n) g h =
    ap (λ x. bit_xor x (g n * 2 ^ n)) (bits-sum n g h) ∙ xor_comm (from_bits n g) (g n * 2 ^ n) ∙ xor_shifted (g n) n (from_bits n g) (bits_lt n g h) ∙ sym (bits_more n g)

-- a bit shifted within a byte is not cut
pub bit_shifted : (q p : ℕ) → q < 2 → p < 8 → q * 2 ^ p % 256 ≡ q * 2 ^ p
bit_shifted q p h l =
    let q≤ : q ≤ 1 = omega arith in
    let p≤ : p ≤ 7 = omega arith in
    mod-eq_of_lt (omega (arith, mul-le-mul q≤ (pow_mono p≤)))

-- ---- the low bits of a number, and one bit alone

pub kept-bit : (x m p : ℕ) → p < m → bit_of (x % 2 ^ m) p ≡ bit_of x p
unfolding bit_of
kept-bit x m p h =
    let e : m ≡ (m - p - 1 + 1) + p = omega arith in
    ap (λ k. x % 2 ^ k / 2 ^ p % 2) e ∙ ap (λ y. y % 2) (field x (m - p - 1 + 1) p) ∙ mod-mod-pow (x / 2 ^ p) (m - p - 1) 1

pub cut-bit : (x m p : ℕ) → m ≤ p → bit_of (x % 2 ^ m) p ≡ 0
unfolding bit_of
cut-bit x m p h = ap (λ y. y % 2) (div-eq_of_lt (omega (arith, mod-lt x (pow_pos m), pow_mono h)))

pub place_same : (q p : ℕ) → q < 2 → bit_of (q * 2 ^ p) p ≡ q
unfolding bit_of
place_same q p h = ap (λ y. y % 2) (shl-shr q p) ∙ mod-eq_of_lt h

pub place_other : (q p i : ℕ) → q < 2 → (i ≡ p → ⊥) → bit_of (q * 2 ^ p) i ≡ 0
unfolding bit_of
place_other q p i h other = ne_cases i p (q * 2 ^ p / 2 ^ i % 2 ≡ 0) other below above
  where
    below : i < p → q * 2 ^ p / 2 ^ i % 2 ≡ 0
    below l =
        let e : p ≡ suc (p - i - 1) + i = omega arith in
        ap (λ k. q * 2 ^ k / 2 ^ i % 2) e
        ∙ ap (λ y. q * y / 2 ^ i % 2) (pow-add 2 (suc (p - i - 1)) i)
        ∙ ap (λ y. y / 2 ^ i % 2) (sym (mul_assoc q (2 ^ suc (p - i - 1)) (2 ^ i)))
        ∙ ap (λ y. y % 2) (shl-shr (q * 2 ^ suc (p - i - 1)) i)
        ∙ ap (λ y. q * y % 2) (pow-suc 2 (p - i - 1))
        ∙ ap (λ y. y % 2) (sym (mul_assoc q (2 ^ (p - i - 1)) 2))
        ∙ mul-mod_left (q * 2 ^ (p - i - 1)) 2

    above : p < i → q * 2 ^ p / 2 ^ i % 2 ≡ 0
    above l =
        let q≤ : q ≤ 1 = omega arith in
        ap (λ y. y % 2) (div-eq_of_lt (omega (arith, mul-le-mul q≤ (le_refl (2 ^ p)), pow-lt l)))

-- ---- a string with one byte changed

module _ (l : List ℕ) (i x : ℕ) where
  pub set-bit : i < length l → (c : ℕ) → c / 8 ≡ i → bit (set l i x) c ≡ bit_of x (c % 8)
  unfolding bit bit_of
  set-bit h c e = ap (λ y. y / 2 ^ (c % 8) % 2) (rw e (get_or-set_same l i x 0 h))

  pub set-bit-other : (c : ℕ) → (c / 8 ≡ i → ⊥) → bit (set l i x) c ≡ bit l c
  unfolding bit
  set-bit-other c other = ap (λ y. y / 2 ^ (c % 8) % 2) (get_or-set_other l i (c / 8) x 0 other)

-- the byte of coordinate c, with the bit q added to it there
module _ (l : List ℕ) (c q : ℕ) (h : q < 2) where
  pub added-same : c < length l * 8 → bit (set l (c / 8) (bit_xor (byte_at l (c / 8)) (q * 2 ^ (c % 8)))) c ≡ bit_xor (bit l c) q
  added-same fits =
      set-bit l (c / 8) (bit_xor (byte_at l (c / 8)) (q * 2 ^ (c % 8))) (omega arith) c refl ∙ bitOf_xor (byte_at l (c / 8)) (q * 2 ^ (c % 8)) (c % 8)
      ∙ ap₂ bit_xor (sym (bit_is l c)) (place_same q (c % 8) h)

  pub added-other : c < length l * 8 → (d : ℕ) → (d ≡ c → ⊥) → bit (set l (c / 8) (bit_xor (byte_at l (c / 8)) (q * 2 ^ (c % 8)))) d ≡ bit l d
  added-other fits d other = go (ℕ_discrete (d / 8) (c / 8))
    where
      go : Dec (d / 8 ≡ c / 8) → bit (set l (c / 8) (bit_xor (byte_at l (c / 8)) (q * 2 ^ (c % 8)))) d ≡ bit l d
      go (yes e) =
          set-bit l (c / 8) (bit_xor (byte_at l (c / 8)) (q * 2 ^ (c % 8))) (omega arith) d e ∙ bitOf_xor (byte_at l (c / 8)) (q * 2 ^ (c % 8)) (d % 8)
          ∙ ap (bit_xor (bit_of (byte_at l (c / 8)) (d % 8))) (place_other q (c % 8) (d % 8) h (λ x. let same : d ≡ c = omega arith in other same))
          ∙ xor_zero_r (bit_of (byte_at l (c / 8)) (d % 8)) ∙ ap (λ i. bit_of (byte_at l i) (d % 8)) (sym e) ∙ sym (bit_is l d)
      go (no n) = set-bit-other l (c / 8) _ d n

-- the byte of coordinate n, cut to the bits below it
module _ (l : List ℕ) (n : ℕ) (spare : n % 8 ≡ 0 → ⊥) (long : length l ≡ bytes_for n) where
  fits : n / 8 < length l
  unfolding bytes_for
  fits = omega (arith, long)

  pub cut_low : (c : ℕ) → c < n → bit (set l (n / 8) (byte_at l (n / 8) % 2 ^ (n % 8))) c ≡ bit l c
  cut_low c h = go (ℕ_discrete (c / 8) (n / 8))
    where
      go : Dec (c / 8 ≡ n / 8) → bit (set l (n / 8) (byte_at l (n / 8) % 2 ^ (n % 8))) c ≡ bit l c
      go (yes e) =
          set-bit l (n / 8) _ fits c e ∙ kept-bit (byte_at l (n / 8)) (n % 8) (c % 8) (omega arith)
          ∙ ap (λ i. bit_of (byte_at l i) (c % 8)) (sym e) ∙ sym (bit_is l c)
      go (no x) = set-bit-other l (n / 8) _ c x

  pub cut_high : (c : ℕ) → n ≤ c → c < length l * 8 → bit (set l (n / 8) (byte_at l (n / 8) % 2 ^ (n % 8))) c ≡ 0
  unfolding bytes_for
  cut_high c low high =
      let e : c / 8 ≡ n / 8 = omega (arith, long) in
      set-bit l (n / 8) _ fits c e ∙ cut-bit (byte_at l (n / 8)) (n % 8) (c % 8) (omega arith)

pub mask_is : (x k : ℕ) → k < 8 → bit_and x (1 * 2 ^ k % 256 - 1) ≡ x % 2 ^ k
mask_is x k h = ap (λ m. bit_and x (m - 1)) (bit_shifted 1 k (lit< tt) h ∙ one-mul (2 ^ k)) ∙ and_mask x k

-- ---- strings added, and cut short

pub xor_bits : (l a b : List ℕ) (n : ℕ) → ((i : ℕ) → i < n → byte_at l i ≡ bit_xor (byte_at a i) (byte_at b i)) → (c : ℕ) → c < n * 8 → bit l c ≡ bit_xor (bit a c) (bit b c)
xor_bits l a b n is c h =
    bit_is l c ∙ ap (λ x. bit_of x (c % 8)) (is (c / 8) (omega arith)) ∙ bitOf_xor (byte_at a (c / 8)) (byte_at b (c / 8)) (c % 8)
    ∙ ap₂ bit_xor (sym (bit_is a c)) (sym (bit_is b c))

pub take-bit : (n : ℕ) (l : List ℕ) (c : ℕ) → c < n * 8 → bit (take n l) c ≡ bit l c
take-bit n l c h = bit_is (take n l) c ∙ ap (λ x. bit_of x (c % 8)) (get_or-take n l (c / 8) 0 (omega arith)) ∙ sym (bit_is l c)
