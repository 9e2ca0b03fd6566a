-- The VOLE identity: what the verifier's sum over opened leaves is.
-- Assumes nothing.
use mathlib.Core.Path.{◌≡◌, refl, sym, ap, ◌∙◌}
use mathlib.Core.Bool.{Bool, true, false, cond, true≢false}
use mathlib.Core.List.{List}
use Prim.Native.Nat.{ℕ, ◌*◌, ◌<◌}
use lib.Dec.{eqb}
use lib.ListN.{length}
use Rattle.algebra.proofs.RingLaws.{ring}
use Rattle.algebra.proofs.SumLaws.{sum_congr, sum_punctured}
use Rattle.protocol.specs.Alphabet.{Alphabet, sym as symbol}
use Rattle.protocol.specs.Shape.{Shape, per_tree, w_of}
use Rattle.protocol.specs.Sections.{Sections}
use Rattle.protocol.specs.Leaves.{leaf_at, open_tree, opened_leaf}
use Rattle.protocol.specs.Prover.{u, v}
use Rattle.protocol.specs.Verifier.{W, correction_at}
use Rattle.theorems.proofs.TestLaws.{eqb_same}
use Rattle.theorems.proofs.LeafLaws.{open_place}

module _ (A : Alphabet) (s : Shape) where
  open A use {K}
  open K use {base, elem}
  open base use {R}
  open R use {F, 𝟘, add as ◌⊕◌, mul as ◌⊗◌}

  infixl 65 ◌⊕◌
  infixl 70 ◌⊗◌
  fold : (a b d c : F) → a ⊕ d ⊗ b ⊕ d ⊗ c ≡ a ⊕ d ⊗ (b ⊕ c)
  fold a b d c = simp ring

  pub vole : (leaves : List ℕ) → length leaves ≡ s.τ * per_tree A * w_of A s → (p : Sections) (e δ c : ℕ) → e < s.τ → δ < per_tree A
      → W A s p e δ (open_tree (per_tree A) (w_of A s) leaves e δ) c ≡ v A s leaves e c ⊕ elem δ ⊗ (u A s leaves e c ⊕ correction_at A s p e c)
  unfolding W u v
  vole leaves h p e δ c le ld =
      ap (λ x. x ⊕ elem δ ⊗ correction_at A s p e c)
      (sum_congr R (per_tree A) _ (λ j. cond (eqb j δ) 𝟘 ((elem j ⊕ elem δ) ⊗ l j)) (λ j lj. term j lj (eqb j δ) refl) ∙ sum_punctured R (per_tree A) δ elem l)
      ∙ fold _ _ (elem δ) (correction_at A s p e c)
    where
      l : ℕ → F
      l j = symbol A (leaf_at (per_tree A) (w_of A s) leaves e j) c

      term : (j : ℕ) → j < per_tree A → (b : Bool) → eqb j δ ≡ b
          → cond b 𝟘 ((elem j ⊕ elem δ) ⊗ symbol A (opened_leaf (w_of A s) δ (open_tree (per_tree A) (w_of A s) leaves e δ) j) c) ≡ cond b 𝟘 ((elem j ⊕ elem δ) ⊗ l j)
      term j lj true x = refl
      term j lj false x =
          rw (open_place (per_tree A) (w_of A s) s.τ leaves h e δ j le ld lj (λ z. absurd (true≢false (sym (eqb_same j δ z) ∙ x))))
