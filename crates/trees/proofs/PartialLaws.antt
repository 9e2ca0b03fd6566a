-- Partial sums: after k leaves, plane p holds its sum, plus the sum of all k leaves where bit p of k is 1. The leaves
-- are any rows of bytes.
-- Assumes nothing.
use Prim.Native.Nat.{ℕ, zero, suc, ◌+◌, ◌*◌, ◌<◌}
use mathlib.Core.Path.{◌≡◌, refl, sym, ap, ap₂, ◌∙◌}
use native.Mathlib.Nat.{zero-mul, one-mul}
use native.Mathlib.Omega.{arith}
use lib.Bits.{bit_xor, xor_self, xor_comm, xor_zero_r}
use Rattle.strings.specs.Sums.{bit_of, xor_sum}
use Rattle.strings.proofs.SumLaws.{sum_more}
use Rattle.strings.proofs.Meaning.{bitOf_lt, bitOf_xor, bitOf_zero}
use Rattle.strings.proofs.XorLaws.{xor_assoc, xor_cancel}
use Rattle.trees.specs.Partial.{Running}

left_comm : (a b c : ℕ) → bit_xor a (bit_xor b c) ≡ bit_xor b (bit_xor a c)
left_comm a b c = sym (xor_assoc a b c) ∙ ap (λ (x : ℕ). bit_xor x c) (xor_comm a b) ∙ xor_assoc b a c

-- q and q' are bit p of k and of k + 1, s the sum of k leaves, l leaf k, and x the plane's sum
partial_step : (q q' s l x : ℕ) → q < 2 → q' < 2
    → bit_xor (bit_xor (q * s) x) (bit_xor q q' * bit_xor s l) ≡ bit_xor (q' * bit_xor s l) (bit_xor x (q * l))
partial_step zero zero s l x h h' = simp zero-mul
partial_step zero (suc zero) s l x h h' =
    simp (zero-mul, one-mul) (xor_comm x (bit_xor s l) ∙ ap (bit_xor (bit_xor s l)) (sym (xor_zero_r x)))
partial_step (suc zero) zero s l x h h' =
    simp (zero-mul, one-mul) (xor_assoc s x (bit_xor s l) ∙ ap (bit_xor s) (left_comm x s l) ∙ xor_cancel s (bit_xor x l))
partial_step (suc zero) (suc zero) s l x h h' =
    simp (zero-mul, one-mul) (xor_zero_r (bit_xor s x)
    ∙ sym (xor_assoc s l (bit_xor x l) ∙ ap (bit_xor s) (left_comm l x l ∙ ap (bit_xor x) (xor_self l) ∙ xor_zero_r x)))
partial_step zero (suc (suc q')) s l x h h' = absurd (omega arith)
partial_step (suc zero) (suc (suc q')) s l x h h' = absurd (omega arith)
partial_step (suc (suc q)) q' s l x h h' = absurd (omega arith)

module _ (f : ℕ → ℕ → ℕ) (r w : ℕ) (u : ℕ → ℕ) (planes : ℕ → ℕ → ℕ) where
  pub running_none : ((b : ℕ) → b < w → u b ≡ 0) → ((p b : ℕ) → p < r → b < w → planes p b ≡ 0) → Running f r w u planes 0
  unfolding xor_sum
  running_none h k = (h, λ p b hp hb. k p b hp hb ∙ sym (ap (λ (q : ℕ). bit_xor (q * 0) 0) (bitOf_zero p)))

  -- leaf j is added to u, and u to the planes whose bit changes from j to j + 1
  pub running_more : (j : ℕ) (u' : ℕ → ℕ) (planes' : ℕ → ℕ → ℕ) → Running f r w u planes j
      → ((b : ℕ) → b < w → u' b ≡ bit_xor (u b) (f j b))
      → ((p b : ℕ) → p < r → b < w → planes' p b ≡ bit_xor (planes p b) (bit_of (bit_xor j (j + 1)) p * u' b))
      → Running f r w u' planes' (j + 1)
  running_more j u' planes' run row more = (
    (λ b h. sum b h ∙ sym (sum_more j (λ i. f i b))),
    (λ p b hp hb.
        more p b hp hb
        ∙ ap₂ bit_xor (run.1 p b hp hb) (ap₂ (λ (q y : ℕ). q * y) (bitOf_xor j (j + 1) p) (sum b hb))
        ∙ partial_step (bit_of j p) (bit_of (j + 1) p) (xor_sum j (λ i. f i b)) (f j b) (xor_sum j (λ i. bit_of i p * f i b)) (bitOf_lt j p) (bitOf_lt (j + 1) p)
        ∙ sym (ap₂ (λ (y z : ℕ). bit_xor (bit_of (j + 1) p * y) z) (sum_more j (λ i. f i b)) (sum_more j (λ i. bit_of i p * f i b)))),
  )
    where
      sum : (b : ℕ) → b < w → u' b ≡ bit_xor (xor_sum j (λ i. f i b)) (f j b)
      sum b h = row b h ∙ ap (λ (x : ℕ). bit_xor x (f j b)) (run.0 b h)

  -- where no bit of the count is set, the planes are their sums
  pub running_all : (n : ℕ) → Running f r w u planes n → ((p : ℕ) → p < r → bit_of n p ≡ 0) → (p b : ℕ) → p < r → b < w → planes p b ≡ xor_sum n (λ i. bit_of i p * f i b)
  running_all n run even p b hp hb =
      run.1 p b hp hb
      ∙ ap (λ (q : ℕ). bit_xor (q * xor_sum n (λ i. f i b)) (xor_sum n (λ i. bit_of i p * f i b))) (even p hp)
      ∙ ap (λ (z : ℕ). bit_xor z (xor_sum n (λ i. bit_of i p * f i b))) (zero-mul (xor_sum n (λ i. f i b)))

-- the number of leaves of a tree serves
pub leaves_even : (p : ℕ) → p < 8 → bit_of 256 p ≡ 0
unfolding bit_of
leaves_even zero h = refl
leaves_even (suc zero) h = refl
leaves_even (suc (suc zero)) h = refl
leaves_even (suc (suc (suc zero))) h = refl
leaves_even (suc (suc (suc (suc zero)))) h = refl
leaves_even (suc (suc (suc (suc (suc zero))))) h = refl
leaves_even (suc (suc (suc (suc (suc (suc zero)))))) h = refl
leaves_even (suc (suc (suc (suc (suc (suc (suc zero))))))) h = refl
leaves_even (suc (suc (suc (suc (suc (suc (suc (suc p)))))))) h = absurd (omega arith)
