-- The verifier's rules. The checks are of any vector w : ℕ → F; the verifier puts W_e for it.
--   correction_at p e == C_e, all zero at e = 0
--   W p e δ tree == W_e, from the opened tree;  key_at p δ w == K_e;  product_left == the product check's left side
--   consistent, product_holds == the two checks;  consistent_at, product_at == at W_e
--   candidate leaves p e == the candidate witness of repetition e;  batched_error == the batched sum of its errors
-- Assumes nothing.
use Rattle.std.specs.Prelude.{Bool, cond, List, ℕ, zero, suc, ◌+◌, ◌*◌, eqb}
use Rattle.algebra.specs.Sum.{sum}
use Rattle.protocol.specs.Lists.{block_at, all_below}
use Rattle.protocol.specs.Alphabet.{Alphabet, sym, elem_at}
use Rattle.protocol.specs.Shape.{Shape, per_tree, w_of}
use Rattle.protocol.specs.Leaves.{opened_leaf}
use Rattle.protocol.specs.Forms.{quad, lin, y_of, error, hash, mask_of, batch}
use Rattle.protocol.specs.Sections.{Sections}
use Rattle.protocol.specs.Prover.{u}

module _ (A : Alphabet) (s : Shape) where
  open A use {K}
  open K use {base, elem}
  open base use {R, eqb as same?}
  open R use {F, 𝟘, add as ◌⊕◌, mul as ◌⊗◌}

  infixl 65 ◌⊕◌
  infixl 70 ◌⊗◌
  -- the first correction sent is C_1
  unfoldable pub correction_at : Sections → ℕ → ℕ → F
  correction_at p zero c = 𝟘
  correction_at p (suc e) c = sym A (block_at p.C (w_of A s) e) c

  unfoldable pub W : Sections → ℕ → ℕ → List ℕ → ℕ → F
  W p e δ tree c = sum R (per_tree A) (λ j. cond (eqb j δ) 𝟘 ((elem j ⊕ elem δ) ⊗ sym A (opened_leaf (w_of A s) δ tree j) c)) ⊕ elem δ ⊗ correction_at p e c

  unfoldable pub key_at : Sections → F → (ℕ → F) → ℕ → F
  key_at p δ w c = w c ⊕ δ ⊗ sym A p.d c

  unfoldable pub consistent : List ℕ → Sections → ℕ → F → (ℕ → F) → Bool
  consistent H' p e δ w = all_below s.t (λ ρ. same? (hash A s H' ρ w) (elem_at A p.Ṽ (e * s.t + ρ) ⊕ δ ⊗ sym A p.ũ ρ))

  unfoldable pub product_left : List ℕ → List ℕ → Sections → ℕ → F → (ℕ → F) → F
  product_left key χ p e δ w =
      batch A s χ e (λ i. quad A s key i (key_at p δ w) (key_at p δ w) ⊕ δ ⊗ lin A s key i (key_at p δ w) ⊕ y_of A s key i ⊗ (δ ⊗ δ)) ⊕ mask_of A s e w

  unfoldable pub product_holds : List ℕ → List ℕ → Sections → ℕ → F → (ℕ → F) → Bool
  product_holds key χ p e δ w = same? (product_left key χ p e δ w) (elem_at A p.QS0 e ⊕ elem_at A p.QS1 e ⊗ δ)

  unfoldable pub consistent_at : List ℕ → Sections → ℕ → ℕ → List ℕ → Bool
  consistent_at H' p e δ tree = consistent H' p e (elem δ) (W p e δ tree)

  unfoldable pub product_at : List ℕ → List ℕ → Sections → ℕ → ℕ → List ℕ → Bool
  product_at key χ p e δ tree = product_holds key χ p e (elem δ) (W p e δ tree)

  -- u of tree e, not of tree 0
  unfoldable pub candidate : List ℕ → Sections → ℕ → ℕ → F
  candidate leaves p e c = u A s leaves e c ⊕ correction_at p e c ⊕ sym A p.d c

  unfoldable pub batched_error : List ℕ → List ℕ → List ℕ → Sections → ℕ → F
  batched_error key χ leaves p e = batch A s χ e (λ i. error A s key i (candidate leaves p e))
