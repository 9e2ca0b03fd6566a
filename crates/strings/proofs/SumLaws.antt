-- Laws of sums: one term more, a part after a part, terms that agree, terms that are 0, the bound of a sum, terms that
-- are sums, terms times a bit;
-- and a term times a bit, which a loop adds under a test.
-- Assumes nothing.
use Prim.Native.Nat.{ℕ, zero, suc, ◌+◌, ◌*◌, ◌-◌, ◌^◌, ◌≤◌, ◌<◌}
use mathlib.Core.Path.{◌≡◌, refl, sym, ap, ap₂, ◌∙◌}
use mathlib.Core.Bool.{cond}
use native.Mathlib.Nat.{add-suc, add-zero, one-mul, zero-mul, mul-zero}
use native.Mathlib.Numerals.{add-one}
use native.Mathlib.Decide.{dec_lt, ℕ_discrete}
use native.Mathlib.Omega.{arith}
use lib.Bits.{bit_xor, xor_zero_r, xor_comm, xor_self, xor_lt}
use lib.Dec.{ltb}
use Rattle.theorems.proofs.TestLaws.{ltb_yes, ltb_no}
use Rattle.strings.specs.Sums.{xor_sum}
use Rattle.strings.proofs.XorLaws.{xor_assoc}

pub sum_more : (n : ℕ) (f : ℕ → ℕ) → xor_sum (n + 1) f ≡ bit_xor (xor_sum n f) (f n)
unfolding xor_sum
sum_more n f = rw add-one

pub sum_same : (n : ℕ) (f g : ℕ → ℕ) → ((i : ℕ) → i < n → f i ≡ g i) → xor_sum n f ≡ xor_sum n g
unfolding xor_sum
sum_same zero f g h = refl
sum_same (suc k) f g h = ap₂ bit_xor (sum_same k f g (λ i hi. h i (omega arith))) (h k (omega arith))

pub sum_parts : (n k : ℕ) (f : ℕ → ℕ) → xor_sum (n + k) f ≡ bit_xor (xor_sum n f) (xor_sum k (λ s. f (n + s)))
unfolding xor_sum
sum_parts n zero f = rw add-zero (sym (xor_zero_r (xor_sum n f)))
sum_parts n (suc k) f =
    rw add-suc (ap (λ (x : ℕ). bit_xor x (f (n + k))) (sum_parts n k f) ∙ xor_assoc (xor_sum n f) (xor_sum k (λ s. f (n + s))) (f (n + k)))

pub sum_past : (n k : ℕ) (f : ℕ → ℕ) → ((s : ℕ) → f (n + s) ≡ 0) → xor_sum (n + k) f ≡ xor_sum n f
unfolding xor_sum
sum_past n zero f h = rw add-zero
sum_past n (suc k) f h = rw add-suc (ap₂ bit_xor (sum_past n k f h) (h k) ∙ xor_zero_r (xor_sum n f))

pub sum-none : (n : ℕ) → xor_sum n (λ i. 0) ≡ 0
unfolding xor_sum
sum-none zero = refl
sum-none (suc n) = xor_zero_r (xor_sum n (λ i. 0)) ∙ sum-none n

-- terms from n on that are 0
pub sum-short : (n m : ℕ) (f : ℕ → ℕ) → n ≤ m → ((i : ℕ) → n ≤ i → i < m → f i ≡ 0) → xor_sum m f ≡ xor_sum n f
sum-short n m f h zeros =
    let e : m ≡ n + (m - n) = omega arith in
    ap (λ k. xor_sum k f) e ∙ sum_parts n (m - n) f
    ∙ ap (bit_xor (xor_sum n f)) (sum_same (m - n) _ (λ i. 0) (λ i l. zeros (n + i) (omega arith) (omega arith)) ∙ sum-none (m - n)) ∙ xor_zero_r (xor_sum n f)

-- a sum of numbers of k bits has k bits
pub sum_lt : (k n : ℕ) (f : ℕ → ℕ) → 0 < 2 ^ k → ((i : ℕ) → i < n → f i < 2 ^ k) → xor_sum n f < 2 ^ k
unfolding xor_sum
sum_lt k zero f pos h = pos
sum_lt k (suc n) f pos h = xor_lt k (xor_sum n f) (f n) (sum_lt k n f pos (λ i l. h i (omega arith))) (h n (omega arith))

pub four : (a b c d : ℕ) → bit_xor (bit_xor a b) (bit_xor c d) ≡ bit_xor (bit_xor a c) (bit_xor b d)
four a b c d =
    xor_assoc a b (bit_xor c d)
    ∙ ap (bit_xor a) (sym (xor_assoc b c d) ∙ ap (λ (x : ℕ). bit_xor x d) (xor_comm b c) ∙ xor_assoc c b d)
    ∙ sym (xor_assoc a c (bit_xor b d))

pub sum_both : (n : ℕ) (f g : ℕ → ℕ) → xor_sum n (λ i. bit_xor (f i) (g i)) ≡ bit_xor (xor_sum n f) (xor_sum n g)
unfolding xor_sum
sum_both zero f g = refl
sum_both (suc n) f g = ap (λ (x : ℕ). bit_xor x (bit_xor (f n) (g n))) (sum_both n f g) ∙ four (xor_sum n f) (xor_sum n g) (f n) (g n)

-- a bit times a sum, and a sum of two bits times a number
pub scale_xor : (q a b : ℕ) → q < 2 → q * bit_xor a b ≡ bit_xor (q * a) (q * b)
scale_xor zero a b h = simp zero-mul
scale_xor (suc zero) a b h = simp one-mul
scale_xor (suc (suc q)) a b h = absurd (omega arith)

pub xor_scale : (q r x : ℕ) → q < 2 → r < 2 → bit_xor q r * x ≡ bit_xor (q * x) (r * x)
xor_scale zero r x h k = simp zero-mul
xor_scale (suc zero) zero x h k = simp (zero-mul, one-mul) (sym (xor_zero_r x))
xor_scale (suc zero) (suc zero) x h k = simp (zero-mul, one-mul) (sym (xor_self x))
xor_scale (suc zero) (suc (suc r)) x h k = absurd (omega arith)
xor_scale (suc (suc q)) r x h k = absurd (omega arith)

pub sum-scale : (q n : ℕ) (f : ℕ → ℕ) → q < 2 → xor_sum n (λ i. q * f i) ≡ q * xor_sum n f
unfolding xor_sum
sum-scale q zero f h = sym (mul-zero q)
sum-scale q (suc n) f h = ap (λ (x : ℕ). bit_xor x (q * f n)) (sum-scale q n f h) ∙ sym (scale_xor q (xor_sum n f) (f n) h)

pub xor_swap : (a b c : ℕ) → bit_xor (bit_xor a b) c ≡ bit_xor (bit_xor a c) b
xor_swap a b c = xor_assoc a b c ∙ ap (bit_xor a) (xor_comm b c) ∙ sym (xor_assoc a c b)

-- a sum after x was added to the term at k
pub sum_put : (n k x : ℕ) (f g : ℕ → ℕ) → g k ≡ bit_xor (f k) x → ((i : ℕ) → (i ≡ k → ⊥) → g i ≡ f i) → xor_sum n g ≡ bit_xor (xor_sum n f) (cond (ltb k n) 1 0 * x)
unfolding xor_sum
sum_put zero k x f g here there = rw (ltb_no k 0 (omega arith)) (sym (zero-mul x))
sum_put (suc n) k x f g here there = go (dec_lt k n) (ℕ_discrete n k) (sum_put n k x f g here there)
  where
    go : Dec (k < n) → Dec (n ≡ k) → xor_sum n g ≡ bit_xor (xor_sum n f) (cond (ltb k n) 1 0 * x) → bit_xor (xor_sum n g) (g n) ≡ bit_xor (bit_xor (xor_sum n f) (f n)) (cond (ltb k (suc n)) 1 0 * x)
    go (yes lt) d ih =
        ap₂ bit_xor ih (there n (λ e. omega arith))
        ∙ ap (λ b. bit_xor (bit_xor (xor_sum n f) (cond b 1 0 * x)) (f n)) (ltb_yes k n lt)
        ∙ xor_swap (xor_sum n f) (1 * x) (f n)
        ∙ ap (λ b. bit_xor (bit_xor (xor_sum n f) (f n)) (cond b 1 0 * x)) (sym (ltb_yes k (suc n) (omega arith)))
    go (no ge) (yes e) ih =
        ap₂ bit_xor ih (rw e here)
        ∙ ap (λ b. bit_xor (bit_xor (xor_sum n f) (cond b 1 0 * x)) (bit_xor (f n) x)) (ltb_no k n (omega arith))
        ∙ ap (λ z. bit_xor (bit_xor (xor_sum n f) z) (bit_xor (f n) x)) (zero-mul x)
        ∙ ap (λ z. bit_xor z (bit_xor (f n) x)) (xor_zero_r (xor_sum n f))
        ∙ sym (xor_assoc (xor_sum n f) (f n) x)
        ∙ ap (bit_xor (bit_xor (xor_sum n f) (f n))) (sym (one-mul x))
        ∙ ap (λ b. bit_xor (bit_xor (xor_sum n f) (f n)) (cond b 1 0 * x)) (sym (ltb_yes k (suc n) (omega (arith, e))))
    go (no ge) (no ne) ih =
        ap₂ bit_xor ih (there n ne)
        ∙ ap (λ b. bit_xor (bit_xor (xor_sum n f) (cond b 1 0 * x)) (f n)) (ltb_no k n (omega arith))
        ∙ xor_swap (xor_sum n f) (0 * x) (f n)
        ∙ ap (λ b. bit_xor (bit_xor (xor_sum n f) (f n)) (cond b 1 0 * x)) (sym (ltb_no k (suc n) (omega arith)))

-- a sum in a running total, and one term more
pub sum_step : (a v n : ℕ) (f : ℕ → ℕ) → v ≡ bit_xor a (xor_sum n f) → bit_xor v (f n) ≡ bit_xor a (xor_sum (n + 1) f)
sum_step a v n f h = rw (h, sum_more) (xor_assoc a (xor_sum n f) (f n))

-- a total to which x was added under a test of the bit q
pub bit_added : (v q x : ℕ) → q ≡ 1 → bit_xor v x ≡ bit_xor v (q * x)
bit_added v q x h = rw (h, one-mul)

pub bit-left : (v q x : ℕ) → q < 2 → (q ≡ 1 → ⊥) → v ≡ bit_xor v (q * x)
bit-left v zero x h k = rw zero-mul (sym (xor_zero_r v))
bit-left v (suc zero) x h k = absurd (k refl)
bit-left v (suc (suc q)) x h k = absurd (omega arith)
