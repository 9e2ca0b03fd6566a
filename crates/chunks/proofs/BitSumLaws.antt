-- Laws of sums of bytes that bits weigh; and rows taken four at a time.
-- Assumes nothing.
use mathlib.Core.Path.{◌≡◌, sym, ap, ◌∙◌}
use Prim.Native.Nat.{ℕ, zero, suc, ◌+◌, ◌*◌, ◌<◌}
use native.Mathlib.Nat.{zero-mul, one-mul, suc-mul}
use native.Mathlib.Omega.{arith}
use lib.Dec.{lit<}
use lib.Bits.{bit_xor}
use Rattle.strings.specs.Sums.{xor_sum}
use Rattle.strings.proofs.SumLaws.{sum_same, sum_both, sum_parts, sum-none, sum_lt, xor_scale}

-- ---- sums

pub sum-swap : (n m : ℕ) (f : ℕ → ℕ → ℕ) → xor_sum n (λ i. xor_sum m (λ j. f i j)) ≡ xor_sum m (λ j. xor_sum n (λ i. f i j))
unfolding xor_sum
sum-swap zero m f = sym (sum-none m)
sum-swap (suc n) m f = ap (λ x. bit_xor x (xor_sum m (λ j. f n j))) (sum-swap n m f) ∙ sym (sum_both m (λ j. xor_sum n (λ i. f i j)) (f n))

pub sum-blocks : (n w : ℕ) (f : ℕ → ℕ) → xor_sum n (λ i. xor_sum w (λ j. f (i * w + j))) ≡ xor_sum (n * w) f
unfolding xor_sum
sum-blocks zero w f = ap (λ k. xor_sum k f) (sym (zero-mul w))
sum-blocks (suc n) w f =
    ap (λ x. bit_xor x (xor_sum w (λ j. f (n * w + j)))) (sum-blocks n w f) ∙ sym (sum_parts (n * w) w f) ∙ ap (λ k. xor_sum k f) (sym (suc-mul n w))

-- ---- products with a bit

pub bits_lt : (n : ℕ) (q : ℕ → ℕ) → ((i : ℕ) → q i < 2) → xor_sum n q < 2
bits_lt n q h = sum_lt 1 n q (lit< tt) (λ i l. h i)

pub times-sum : (n : ℕ) (q : ℕ → ℕ) (x : ℕ) → ((i : ℕ) → q i < 2) → xor_sum n q * x ≡ xor_sum n (λ i. q i * x)
unfolding xor_sum
times-sum zero q x h = zero-mul x
times-sum (suc n) q x h = xor_scale (xor_sum n q) (q n) x (bits_lt n q h) (h n) ∙ ap (λ y. bit_xor y (q n * x)) (times-sum n q x h)

pub bit-sum : (q n : ℕ) (f : ℕ → ℕ) → q < 2 → q * xor_sum n f ≡ xor_sum n (λ i. q * f i)
bit-sum zero n f h = zero-mul _ ∙ sym (sum_same n _ (λ i. 0) (λ i l. zero-mul (f i)) ∙ sum-none n)
bit-sum (suc zero) n f h = one-mul _ ∙ sum_same n _ _ (λ i l. sym (one-mul (f i)))
bit-sum (suc (suc q)) n f h = absurd (omega arith)
