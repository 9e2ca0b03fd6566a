-- Eight bytes as one word: how it is put together, and the sum of its bytes by halves.
-- Assumes nothing.
use mathlib.Core.Path.{◌≡◌, sym, ap, ap₂, ◌∙◌}
use mathlib.Core.List.{List}
use mathlib.Core.Logic.{⊎_elim}
use Prim.Native.Nat.{ℕ, zero, suc, ◌+◌, ◌*◌, ◌/◌, ◌%◌, ◌-◌, ◌^◌, ◌≤◌, ◌<◌}
use native.Mathlib.Nat.{mul-le-mul, le_refl, mod-eq_of_lt, div-one, add_assoc, eq-or-lt_of_le, le_of_suc-le-suc}
use native.Mathlib.Omega.{arith}
use lib.Bits.{bit_or, bit_xor, or_shifted_r, xor_shr, xor_mod}
use lib.Dec.{lit<}
use lib.ListN.{take, drop}
use lib.Seq.{get_or-take, get_or-drop}
use Rattle.std.specs.Int.{w64, from_le_bytes}
use lib.Pow.{pow-add, shl_exact, shr-shr, high, low, field, mod-mod-pow}
use Rattle.strings.specs.Sums.{byte_at, xor_sum}
use Rattle.strings.specs.Words.{word_of}
use Rattle.strings.proofs.SumLaws.{sum_same, sum_parts, sum_both}

-- byte i of a number
abbrev byte_of : ℕ → ℕ → ℕ
byte_of x i = x / 2 ^ (8 * i) % 2 ^ 8

-- what stands above byte i does not change it
byte_low : (b n i w : ℕ) → w < 2 ^ (8 * n) → i < n → byte_of (b * 2 ^ (8 * n) + w) i ≡ byte_of w i
byte_low b n i w h l =
    let e : 8 * n ≡ 8 * (n - suc i) + (8 + 8 * i) = omega arith in
    let cut : (x : ℕ) → x % 2 ^ (8 * n) % 2 ^ (8 + 8 * i) ≡ x % 2 ^ (8 + 8 * i) = λ x. ap (λ k. x % 2 ^ k % 2 ^ (8 + 8 * i)) e ∙ mod-mod-pow x (8 * (n - suc i)) (8 + 8 * i) in
    let x = b * 2 ^ (8 * n) + w in
    sym (field x 8 (8 * i)) ∙ ap (λ y. y / 2 ^ (8 * i)) (sym (cut x) ∙ ap (λ y. y % 2 ^ (8 + 8 * i)) (low b (8 * n) h)) ∙ field w 8 (8 * i)

-- byte i of n bytes of s, from `at` on
pub part-byte : (s : List ℕ) (at n i : ℕ) → i < n → byte_at (take n (drop at s)) i ≡ byte_at s (at + i)
part-byte s at n i h = get_or-take n (drop at s) i 0 h ∙ get_or-drop at s i 0

-- eight bytes read as the library reads them
pub word_read : (s : List ℕ) (at : ℕ) → from_le_bytes w64 (take 8 (drop at s)) ≡ word_of s at 8
unfolding word_of
word_read s at =
    let b = part-byte s at 8 in
    omega (arith, b 0 (lit< tt), b 1 (lit< tt), b 2 (lit< tt), b 3 (lit< tt), b 4 (lit< tt), b 5 (lit< tt), b 6 (lit< tt), b 7 (lit< tt))

module _ (s : List ℕ) (at : ℕ) (bytes : (i : ℕ) → byte_at s i < 256) where
  pub word_lt : (n : ℕ) → word_of s at n < 2 ^ (8 * n)
  unfolding word_of
  word_lt zero = omega arith
  word_lt (suc n) =
      let e : 8 * suc n ≡ 8 + 8 * n = omega arith in
      let p : 2 ^ (8 * suc n) ≡ 256 * 2 ^ (8 * n) = ap (λ k. 2 ^ k) e ∙ pow-add 2 8 (8 * n) in
      let b : byte_at s (at + n) ≤ 255 = omega (arith, bytes (at + n)) in
      omega (arith, p, word_lt n, mul-le-mul b (le_refl (2 ^ (8 * n))))

  pub word_first : byte_at s at ≡ word_of s at 1
  unfolding word_of
  word_first = let e : at + 0 ≡ at = omega arith in rw e (omega arith)

  -- a byte more, shifted to its place
  pub word_next : (n : ℕ) → n < 8 → bit_or (word_of s at n) (byte_at s (at + n) * 2 ^ (8 * n) % 2 ^ 64) ≡ word_of s at (suc n)
  unfolding word_of
  word_next n h =
      ap (bit_or (word_of s at n)) (shl_exact 8 (8 * n) 64 (bytes (at + n)) (omega arith))
      ∙ or_shifted_r (byte_at s (at + n)) (8 * n) (word_of s at n) (word_lt n)

  word_byte_lem : (n i : ℕ) → i < n → byte_of (word_of s at n) i ≡ byte_at s (at + i)
  unfolding word_of
  word_byte_lem zero i h = absurd (omega arith)
  word_byte_lem (suc n) i h =
      ⊎_elim
      (λ (e : i ≡ n). rw e (ap (λ x. x % 2 ^ 8) (high (byte_at s (at + n)) (8 * n) (word_lt n)) ∙ mod-eq_of_lt (bytes (at + n))))
      (λ (l : i < n). byte_low (byte_at s (at + n)) n i (word_of s at n) (word_lt n) l ∙ word_byte_lem n i l)
      (eq-or-lt_of_le (le_of_suc-le-suc h))

-- ---- the sum of bytes, by words

byte_xor : (x y i : ℕ) → byte_of (bit_xor x y) i ≡ bit_xor (byte_of x i) (byte_of y i)
byte_xor x y i = ap (λ z. z % 2 ^ 8) (xor_shr x y (8 * i)) ∙ xor_mod (x / 2 ^ (8 * i)) (y / 2 ^ (8 * i)) 8

byte-shift : (x k i : ℕ) → byte_of (x / 2 ^ (8 * k)) i ≡ byte_of x (k + i)
byte-shift x k i =
    let e : 8 * k + 8 * i ≡ 8 * (k + i) = omega arith in
    ap (λ z. z % 2 ^ 8) (shr-shr x (8 * k) (8 * i)) ∙ ap (λ j. x / 2 ^ j % 2 ^ 8) e

-- the upper half of a number added to the lower one, n bytes below
abbrev pub halved : ℕ → ℕ → ℕ
halved n x = bit_xor x (x / 2 ^ (8 * n))

sum-halved : (n x : ℕ) → xor_sum n (byte_of (halved n x)) ≡ xor_sum (n + n) (byte_of x)
sum-halved n x =
    sum_same n _ (λ i. bit_xor (byte_of x i) (byte_of x (n + i))) (λ i l. byte_xor x (x / 2 ^ (8 * n)) i ∙ ap (bit_xor (byte_of x i)) (byte-shift x n i))
    ∙ sum_both n (byte_of x) (λ i. byte_of x (n + i)) ∙ sym (sum_parts n n (byte_of x))

-- two words, whose bytes are added by halves
pub sum-words : (s : List ℕ) (at : ℕ) → ((i : ℕ) → byte_at s i < 256) → halved 1 (halved 2 (halved 4 (bit_xor (word_of s at 8) (word_of s (at + 8) 8)))) % 256 ≡ xor_sum 16 (λ f. byte_at s (at + f))
unfolding xor_sum
sum-words s at bytes =
    let all = bit_xor (word_of s at 8) (word_of s (at + 8) 8) in
    ap (λ y. y % 256) (sym (div-one (halved 1 (halved 2 (halved 4 all)))))
    ∙ sum-halved 1 (halved 2 (halved 4 all)) ∙ sum-halved 2 (halved 4 all) ∙ sum-halved 4 all
    ∙ sum_same 8 _ (λ i. bit_xor (byte_at s (at + i)) (byte_at s (at + (8 + i)))) (λ i l.
    byte_xor (word_of s at 8) (word_of s (at + 8) 8) i
    ∙ ap₂ bit_xor (word_byte_lem s at bytes 8 i l) (word_byte_lem s (at + 8) bytes 8 i l ∙ ap (byte_at s) (add_assoc at 8 i)))
    ∙ sum_both 8 (λ i. byte_at s (at + i)) (λ i. byte_at s (at + (8 + i))) ∙ sym (sum_parts 8 8 (λ f. byte_at s (at + f)))
