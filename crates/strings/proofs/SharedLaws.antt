-- The ones that two words share are counted byte by byte; and those of the last bytes of two words.
-- Assumes nothing.
use mathlib.Core.Path.{◌≡◌, sym, ap, ap₂, ◌∙◌}
use mathlib.Core.List.{List}
use Prim.Native.Nat.{ℕ, zero, suc, ◌+◌, ◌*◌, ◌/◌, ◌^◌, ◌<◌}
use native.Mathlib.Nat.{add_assoc, add-mul, mul_assoc}
use native.Mathlib.Omega.{arith}
use lib.Bits.{bit_and, and_block, and_lt, and_shr}
use lib.Count.{ones, ones_cat}
use lib.Pow.{pow-add, high}
use Rattle.strings.specs.Sums.{byte_at}
use Rattle.strings.specs.Words.{word_of}
use Rattle.strings.proofs.WordLaws.{word_lt}
use Rattle.strings.specs.Shared.{shared}

-- the ones that two words share are those that their bytes share
pub shared-word : (row x : List ℕ) (at : ℕ) → ((i : ℕ) → byte_at row i < 256) → ((i : ℕ) → byte_at x i < 256)
    → (n : ℕ) → ones (bit_and (word_of row at n) (word_of x at n)) + shared at row x ≡ shared (at + n) row x
unfolding word_of shared ones
shared-word row x at b c zero = let e : at + 0 ≡ at = omega arith in rw e (omega arith)
shared-word row x at b c (suc n) =
    let e : at + suc n ≡ suc (at + n) = omega arith in
    let r = word_of row at n in
    let t = word_of x at n in
    let p = byte_at row (at + n) in
    let q = byte_at x (at + n) in
    let both : ones (bit_and (p * 2 ^ (8 * n) + r) (q * 2 ^ (8 * n) + t)) ≡ ones (bit_and p q) + ones (bit_and r t) =
    ap ones (and_block (8 * n) p q r t (word_lt row at b n) (word_lt x at c n)) ∙ ones_cat (8 * n) (bit_and p q) (bit_and r t) (and_lt (8 * n) r t (word_lt row at b n) (word_lt x at c n)) in
    ap (λ y. y + shared at row x) both ∙ rw e (omega (arith, shared-word row x at b c n))

-- the word of the first k bytes, and above it that of the others
word_parts : (s : List ℕ) (at k n : ℕ) → word_of s at (k + n) ≡ word_of s (at + k) n * 2 ^ (8 * k) + word_of s at k
unfolding word_of
word_parts s at k zero = let e : k + 0 ≡ k = omega arith in rw e (omega arith)
word_parts s at k (suc n) =
    let e : k + suc n ≡ suc (k + n) = omega arith in
    let f : at + (k + n) ≡ at + k + n = omega arith in
    let g : 8 * (k + n) ≡ 8 * n + 8 * k = omega arith in
    let p : 2 ^ (8 * (k + n)) ≡ 2 ^ (8 * n) * 2 ^ (8 * k) = ap (λ z. 2 ^ z) g ∙ pow-add 2 (8 * n) (8 * k) in
    ap (word_of s at) e
    ∙ ap₂ (λ u v. u + v) (ap₂ (λ u v. byte_at s u * v) f p) (word_parts s at k n)
    ∙ join (byte_at s (at + k + n)) (2 ^ (8 * n)) (2 ^ (8 * k)) (word_of s (at + k) n) (word_of s at k)
  where
    join : (b p q w v : ℕ) → b * (p * q) + (w * q + v) ≡ (b * p + w) * q + v
    join b p q w v = sym (ap (λ z. z + v) (add-mul (b * p) w q ∙ ap (λ z. z + w * q) (mul_assoc b p q)) ∙ add_assoc (b * (p * q)) (w * q) v)

-- the last n bytes of a word, the k before them shifted out
pub word-high : (s : List ℕ) (at : ℕ) → ((i : ℕ) → byte_at s i < 256) → (k n : ℕ) → word_of s at (k + n) / 2 ^ (8 * k) ≡ word_of s (at + k) n
word-high s at b k n = ap (λ z. z / 2 ^ (8 * k)) (word_parts s at k n) ∙ high (word_of s (at + k) n) (8 * k) (word_lt s at b k)

-- the ones that they share
pub shared_last : (row x : List ℕ) (at : ℕ) → ((i : ℕ) → byte_at row i < 256) → ((i : ℕ) → byte_at x i < 256)
    → (k n : ℕ) → ones (bit_and (word_of row at (k + n)) (word_of x at (k + n)) / 2 ^ (8 * k)) + shared (at + k) row x ≡ shared (at + k + n) row x
shared_last row x at b c k n =
    ap (λ z. ones z + shared (at + k) row x) (and_shr (word_of row at (k + n)) (word_of x at (k + n)) (8 * k) ∙ ap₂ bit_and (word-high row at b k n) (word-high x at c k n))
    ∙ shared-word row x (at + k) b c n
