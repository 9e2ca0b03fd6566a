-- The sum that the bits of a number select: with one bit more, at the top, there is one term more.
-- Assumes nothing.
use Prim.Native.Nat.{ℕ, zero, suc, ◌+◌, ◌*◌, ◌^◌, ◌<◌}
use mathlib.Core.Path.{◌≡◌, sym, ap, ap₂, ◌∙◌}
use native.Mathlib.Nat.{one-mul, zero-mul}
use native.Mathlib.Decide.{ℕ_discrete}
use native.Mathlib.Omega.{arith}
use lib.Dec.{lit<}
use lib.Bits.{bit_xor, xor_shifted, xor_zero_r, xor_zero_l, xor_comm}
use Rattle.strings.specs.Sums.{bit_of, xor_sum}
use Rattle.strings.proofs.SumLaws.{sum_same, sum-none, sum_both, xor_scale}
use Rattle.strings.proofs.BitLaws.{place_same, place_other}
use Rattle.strings.proofs.Meaning.{bitOf_lt, bitOf_xor}

sum-only : (n d : ℕ) (f : ℕ → ℕ) → d < n → ((i : ℕ) → (i ≡ d → ⊥) → f i ≡ 0) → xor_sum n f ≡ f d
unfolding xor_sum
sum-only zero d f l h = absurd (omega arith)
sum-only (suc n) d f l h = go (ℕ_discrete n d) (sum-only n d f)
  where
    go : Dec (n ≡ d) → (d < n → ((i : ℕ) → (i ≡ d → ⊥) → f i ≡ 0) → xor_sum n f ≡ f d) → bit_xor (xor_sum n f) (f n) ≡ f d
    go (yes e) ih = ap (λ x. bit_xor x (f n)) (sum_same n f (λ i. 0) (λ i k. h i (λ x. omega arith)) ∙ sum-none n) ∙ xor_zero_l (f n) ∙ ap f e
    go (no e) ih = ap₂ bit_xor (ih (omega arith) h) (h n e) ∙ xor_zero_r (f d)

-- the sum that the bits of 2^s + u select, from that of u
module _ (n : ℕ) (x : ℕ → ℕ) (s u : ℕ) (hs : s < n) (hu : u < 2 ^ s) where
  top : ℕ → ℕ
  top j = bit_of (1 * 2 ^ s) j

  one_bit : (j : ℕ) → bit_of (2 ^ s + u) j ≡ bit_xor (top j) (bit_of u j)
  unfolding top
  one_bit j = ap (λ v. bit_of v j) (ap (λ v. v + u) (sym (one-mul (2 ^ s))) ∙ sym (xor_shifted 1 s u hu)) ∙ bitOf_xor (1 * 2 ^ s) u j

  pub with_top : xor_sum n (λ j. bit_of (2 ^ s + u) j * x j) ≡ bit_xor (xor_sum n (λ j. bit_of u j * x j)) (x s)
  unfolding top
  with_top =
      sum_same n _ (λ j. bit_xor (top j * x j) (bit_of u j * x j)) (λ j l. ap (λ b. b * x j) (one_bit j) ∙ xor_scale (top j) (bit_of u j) (x j) (bitOf_lt (1 * 2 ^ s) j) (bitOf_lt u j))
      ∙ sum_both n (λ j. top j * x j) (λ j. bit_of u j * x j)
      ∙ xor_comm (xor_sum n (λ j. top j * x j)) (xor_sum n (λ j. bit_of u j * x j))
      ∙ ap (bit_xor (xor_sum n (λ j. bit_of u j * x j)))
      (sum-only n s (λ j. top j * x j) hs (λ j other. ap (λ b. b * x j) (place_other 1 s j (lit< tt) other) ∙ zero-mul (x j))
      ∙ ap (λ b. b * x s) (place_same 1 s (lit< tt)) ∙ one-mul (x s))
