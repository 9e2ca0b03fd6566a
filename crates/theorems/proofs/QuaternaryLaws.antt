-- The four symbols are a lawful alphabet, and add and multiply by the rules on their bits.
-- Assumes nothing.
use mathlib.Core.Path.{◌≡◌, refl, sym, ap, ap₂, ◌∙◌}
use mathlib.Core.Bool.{true}
use mathlib.Core.List.{List}
use Prim.Native.Nat.{ℕ, zero, suc, ◌+◌, ◌*◌, ◌/◌, ◌%◌, ◌^◌, ◌≤◌, ◌<◌}
use native.Mathlib.Nat.{mod-lt, div-one}
use native.Mathlib.Decide.{ℕ_discrete}
use native.Mathlib.Omega.{arith}
use lib.Dec.{lit<}
use lib.ListN.{length}
use Rattle.algebra.specs.Ring.{Ring}
use Rattle.algebra.specs.BitField.{computing}
use Rattle.galois.specs.Gf256.{gf256}
use Rattle.protocol.specs.Strings.{bytes_for, bit, pack, spare_zero, bytes}
use Rattle.protocol.specs.Alphabet.{IsSymbol, Lawful}
use Rattle.protocol.specs.Quaternary.{symbol_byte, symbol_in, symbol_at, symbol_bit, fours256}
use Rattle.protocol.specs.Symbols.{plus, times}
use Rattle.theorems.proofs.StringLaws.{bit_lt, length-pack, pack_in, pack-spare, pack_congr, pack-bytes, string_is}

abbrev R : Ring
R = gf256.base.R

abbrev F : Type 0
F = gf256.base.R.F

abbrev embed : ℕ → F
embed x = gf256.elem (symbol_byte x)

-- ---- symbols

pub by-four : (P : ℕ → Type 0) → P 0 → P 1 → P 2 → P 3 → (x : ℕ) → x < 4 → P x
by-four P a b c d zero l = a
by-four P a b c d (suc zero) l = b
by-four P a b c d (suc (suc zero)) l = c
by-four P a b c d (suc (suc (suc zero))) l = d
by-four P a b c d (suc (suc (suc (suc x)))) l = absurd (omega arith)

-- what holds of the 16 pairs
by-pairs : (P : ℕ → ℕ → Type 0) → ((x : ℕ) → x < 4 → P x 0 × P x 1 × P x 2 × P x 3) → (x : ℕ) → x < 4 → (y : ℕ) → y < 4 → P x y
by-pairs P h x l = let r = h x l in by-four (P x) r.0 r.1 r.2 r.3

abbrev Adds : ℕ → ℕ → Type 0
Adds x y = R.add (embed x) (embed y) ≡ embed (plus x y)

pub adds : (x : ℕ) → x < 4 → (y : ℕ) → y < 4 → Adds x y
unfolding computing symbol_byte plus
adds =
    by-pairs Adds
    (by-four (λ x. Adds x 0 × Adds x 1 × Adds x 2 × Adds x 3) (refl, refl, refl, refl) (refl, refl, refl, refl) (refl, refl, refl, refl) (refl, refl, refl, refl))

abbrev Multiplies : ℕ → ℕ → Type 0
Multiplies x y = R.mul (embed x) (embed y) ≡ embed (times x y)

pub multiplies : (x : ℕ) → x < 4 → (y : ℕ) → y < 4 → Multiplies x y
unfolding computing symbol_byte times
multiplies =
    by-pairs Multiplies
    (by-four (λ x. Multiplies x 0 × Multiplies x 1 × Multiplies x 2 × Multiplies x 3) (refl, refl, refl, refl) (refl, refl, refl, refl) (refl, refl, refl, refl) (refl, refl, refl, refl))

-- two bits are below 4
pub two-bits : (a b : ℕ) → a % 2 + 2 * (b % 2) < 4
two-bits a b = omega arith

pub plus_lt : (x y : ℕ) → plus x y < 4
unfolding plus
plus_lt x y = two-bits (x % 2 + y % 2) (x / 2 + y / 2)

pub times_lt : (x y : ℕ) → times x y < 4
unfolding times
times_lt x y = two-bits (x % 2 * (y % 2) + x / 2 * (y / 2)) (x % 2 * (y / 2) + x / 2 * (y % 2) + x / 2 * (y / 2))

add_symbol : (a b : F) → IsSymbol fours256 a → IsSymbol fours256 b → IsSymbol fours256 (R.add a b)
add_symbol a b (x, l, e) (y, k, g) = (plus x y, plus_lt x y, ap₂ R.add e g ∙ adds x l y k)

mul_symbol : (a b : F) → IsSymbol fours256 a → IsSymbol fours256 b → IsSymbol fours256 (R.mul a b)
mul_symbol a b (x, l, e) (y, k, g) = (times x y, times_lt x y, ap₂ R.mul e g ∙ multiplies x l y k)

symbol-of : (x : ℕ) → x < 4 → symbol_in (gf256.byte (embed x)) ≡ x
unfolding computing symbol_byte symbol_in
symbol-of = by-four (λ x. symbol_in (gf256.byte (embed x)) ≡ x) refl refl refl refl

symbol_lt : (a : F) → symbol_in (gf256.byte a) < 4
unfolding symbol_in
symbol_lt a = let l : gf256.byte a < 256 = gf256.byte_lt a in omega arith

symbol_back : (a : F) → IsSymbol fours256 a → embed (symbol_in (gf256.byte a)) ≡ a
symbol_back a (x, l, e) = ap (λ z. embed (symbol_in (gf256.byte z))) e ∙ ap embed (symbol-of x l) ∙ sym e

-- ---- strings

at_lt : (s : List ℕ) (c : ℕ) → symbol_at s c < 4
unfolding symbol_at
at_lt s c = omega (arith, bit_lt s (2 * c), bit_lt s (2 * c + 1))

bit_below : (f : ℕ → ℕ) (b : ℕ) → symbol_bit f b < 2
unfolding symbol_bit
bit_below f b = mod-lt _ (lit< tt)

low_bit : (f : ℕ → ℕ) (c : ℕ) → symbol_bit f (2 * c) ≡ f c % 2
unfolding symbol_bit
low_bit f c =
    let d : 2 * c / 2 ≡ c = omega arith in
    let m : 2 * c % 2 ≡ 0 = omega arith in
    ap₂ (λ i k. f i / 2 ^ k % 2) d m ∙ ap (λ x. x % 2) (div-one (f c))

high_bit : (f : ℕ → ℕ) (c : ℕ) → symbol_bit f (2 * c + 1) ≡ f c / 2 % 2
unfolding symbol_bit
high_bit f c =
    let d : (2 * c + 1) / 2 ≡ c = omega arith in
    let m : (2 * c + 1) % 2 ≡ 1 = omega arith in
    ap₂ (λ i k. f i / 2 ^ k % 2) d m

pack-at : (L : ℕ) (f : ℕ → ℕ) → ((c : ℕ) → f c < 4) → (c : ℕ) → c < L → symbol_at (pack (2 * L) (symbol_bit f)) c ≡ f c
unfolding symbol_at
pack-at L f h c l =
    ap₂ (λ a b. a + 2 * b)
    (pack_in (2 * L) (symbol_bit f) (bit_below f) (2 * c) (omega arith) ∙ low_bit f c)
    (pack_in (2 * L) (symbol_bit f) (bit_below f) (2 * c + 1) (omega arith) ∙ high_bit f c)
    ∙ join (f c) (h c)
  where
    join : (x : ℕ) → x < 4 → x % 2 + 2 * (x / 2 % 2) ≡ x
    join x k = omega arith

symbols_congr : (L : ℕ) (f g : ℕ → ℕ) → ((c : ℕ) → c < L → f c ≡ g c) → pack (2 * L) (symbol_bit f) ≡ pack (2 * L) (symbol_bit g)
unfolding symbol_bit
symbols_congr L f g h = pack_congr (2 * L) _ _ (λ b l. let k : b / 2 < L = omega arith in ap (λ x. x / 2 ^ (b % 2) % 2) (h (b / 2) k))

-- a number is twice its half, or one more
pub halves : (P : ℕ → Type 0) → ((c : ℕ) → P (2 * c)) → ((c : ℕ) → P (2 * c + 1)) → (b : ℕ) → P b
halves P even odd b = go (ℕ_discrete (b % 2) 0)
  where
    go : Dec (b % 2 ≡ 0) → P b
    go (yes e) = let h : b ≡ 2 * (b / 2) = omega arith in rw h (even (b / 2))
    go (no n) = let h : b ≡ 2 * (b / 2) + 1 = omega arith in rw h (odd (b / 2))

-- a string's symbols have its bits
bits_back : (s : List ℕ) (b : ℕ) → symbol_bit (symbol_at s) b ≡ bit s b
unfolding symbol_at
bits_back s =
    halves (λ b. symbol_bit (symbol_at s) b ≡ bit s b)
    (λ c. low_bit (symbol_at s) c ∙ low (bit s (2 * c)) (bit s (2 * c + 1)) (bit_lt s (2 * c)))
    (λ c. high_bit (symbol_at s) c ∙ high (bit s (2 * c)) (bit s (2 * c + 1)) (bit_lt s (2 * c)) (bit_lt s (2 * c + 1)))
  where
    low : (a b : ℕ) → a < 2 → (a + 2 * b) % 2 ≡ a
    low a b k = omega arith

    high : (a b : ℕ) → a < 2 → b < 2 → (a + 2 * b) / 2 % 2 ≡ b
    high a b k l = omega arith

symbols_are : (L : ℕ) (s : List ℕ) → length s ≡ bytes_for (2 * L) → bytes s → spare_zero s (2 * L) ≡ true → pack (2 * L) (symbol_bit (symbol_at s)) ≡ s
symbols_are L s k b z = pack_congr (2 * L) (symbol_bit (symbol_at s)) (bit s) (λ c l. bits_back s c) ∙ string_is (2 * L) s k b z

width_le : (L : ℕ) → bytes_for (2 * L) ≤ L
unfolding bytes_for
width_le L = omega arith

pub fours256-lawful : Lawful fours256
unfolding symbol_byte
fours256-lawful = record {
  at_lt = at_lt;
  symbol_lt = symbol_lt;
  symbol_back = symbol_back;
  zero_symbol = (0, lit< tt, sym gf256.elem-zero);
  one_symbol = (1, lit< tt, sym gf256.elem-one);
  add_symbol = add_symbol;
  mul_symbol = mul_symbol;
  width_le = width_le;
  pack-length = λ L f. length-pack (2 * L) (symbol_bit f);
  pack-at = pack-at;
  pack-spare = λ L f h. pack-spare (2 * L) (symbol_bit f) (bit_below f);
  masks_le = omega arith;
  symbol-of = symbol-of;
  pack_congr = symbols_congr;
  pack-bytes = λ L f h. pack-bytes (2 * L) (symbol_bit f) (bit_below f);
  string_is = symbols_are;
}
