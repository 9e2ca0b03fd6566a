-- The hash of a vector: what a row of H' takes of the first k coordinates, and coordinate k + ρ.
-- Assumes nothing.
use mathlib.Core.Path.{◌≡◌, refl, ap, ap₂, ◌∙◌}
use mathlib.Core.Logic.{◌≢◌}
use mathlib.Core.Bool.{cond}
use mathlib.Core.List.{List}
use Prim.Native.Nat.{ℕ, ◌+◌, ◌<◌}
use native.Mathlib.Omega.{arith}
use lib.Dec.{eqb}
use Rattle.algebra.specs.Sum.{sum}
use Rattle.algebra.proofs.RingLaws.{ring}
use Rattle.algebra.proofs.SumLaws.{sum_congr, sum-split, sum_one}
use Rattle.protocol.specs.Lists.{block_at}
use Rattle.protocol.specs.Alphabet.{Alphabet, sym as symbol}
use Rattle.protocol.specs.Shape.{Shape, k_of, l_of}
use Rattle.protocol.specs.Forms.{h, hash}
use Rattle.theorems.proofs.TestLaws.{ltb_yes, ltb_no, eqb_same, eqb-other}

module _ (A : Alphabet) (s : Shape) (H' : List ℕ) (ρ : ℕ) (f : ℕ → A.K.base.R.F) where
  open A use {K, width}
  open K use {base}
  open base use {R}
  open R use {F, 𝟘, 𝟙, add as ◌⊕◌, mul as ◌⊗◌}

  infixl 65 ◌⊕◌
  infixl 70 ◌⊗◌
  row_at : (c : ℕ) → c < k_of A s → h A s H' ρ c ≡ symbol A (block_at H' (width (k_of A s)) ρ) c
  unfolding h
  row_at c l = ap (λ b. cond b (symbol A (block_at H' (width (k_of A s)) ρ) c) (cond (eqb c (k_of A s + ρ)) 𝟙 𝟘)) (ltb_yes c (k_of A s) l)

  identity_at : h A s H' ρ (k_of A s + ρ) ≡ 𝟙
  unfolding h
  identity_at =
      ap₂ (λ b d. cond b (symbol A (block_at H' (width (k_of A s)) ρ) (k_of A s + ρ)) (cond d 𝟙 𝟘)) (ltb_no (k_of A s + ρ) (k_of A s) (omega arith)) (eqb_same (k_of A s + ρ) (k_of A s + ρ) refl)

  zero-at : (i : ℕ) → i ≢ ρ → h A s H' ρ (k_of A s + i) ≡ 𝟘
  unfolding h
  zero-at i n =
      ap₂ (λ b d. cond b (symbol A (block_at H' (width (k_of A s)) ρ) (k_of A s + i)) (cond d 𝟙 𝟘)) (ltb_no (k_of A s + i) (k_of A s) (omega arith)) (eqb-other (k_of A s + i) (k_of A s + ρ) (λ e. n (omega arith)))

  none : (a b : F) → a ≡ 𝟘 → a ⊗ b ≡ 𝟘
  none a b e = simp (e, ring)

  one : (a b : F) → a ≡ 𝟙 → a ⊗ b ≡ b
  one a b e = simp (e, ring)

  pub hash-split : ρ < s.t → hash A s H' ρ f ≡ sum R (k_of A s) (λ c. symbol A (block_at H' (width (k_of A s)) ρ) c ⊗ f c) ⊕ f (k_of A s + ρ)
  unfolding hash l_of
  hash-split l =
      sum-split R (k_of A s) s.t (λ c. h A s H' ρ c ⊗ f c)
      ∙ ap₂ ◌⊕◌ (sum_congr R (k_of A s) _ _ (λ c k. ap (λ z. z ⊗ f c) (row_at c k)))
      (sum_one R s.t ρ (λ i. h A s H' ρ (k_of A s + i) ⊗ f (k_of A s + i)) l (λ i n. none _ (f (k_of A s + i)) (zero-at i n)) ∙ one _ (f (k_of A s + ρ)) identity_at)
