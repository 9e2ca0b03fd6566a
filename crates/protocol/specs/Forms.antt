-- The forms of a key, the hash, the mask and the batching, of any vector f : ℕ → F.
--   quad key i f g == fᵀ·A_i·g;  lin key i f == b_i·f;  y_of key i == y_i
--   error key i f == equation i's left side at f, plus y_i
--   middle key i f g == the coefficient of X in fᵀA_i·f at f + X·g, plus X·(b_i·(f + X·g))
--   h H' ρ c == H(ρ, c), H = [H' | identity];  hash H' ρ f == row ρ of H·f;  α == the element 02
--   mask_of e f == Σ α^s·f(mask coordinate s of e)
--   χAt χ e i == χ(e, i);  batch χ e f == Σ χ(e, i)·f(i)
-- Assumes nothing.
use Rattle.std.specs.Prelude.{cond, List, ℕ, ◌+◌, ◌*◌, eqb, ltb}
use Rattle.algebra.specs.Sum.{sum, form, power}
use Rattle.protocol.specs.Lists.{block_at}
use Rattle.protocol.specs.Alphabet.{Alphabet, sym, elem_at}
use Rattle.protocol.specs.Shape.{Shape, mask_at, k_of, l_of}
use Rattle.protocol.specs.Key.{a_sym, b_sym, y_sym}

module _ (A : Alphabet) where
  open A use {K, width, masks}
  open K use {base, elem}
  open base use {R}
  open R use {F, 𝟘, 𝟙, add as ◌⊕◌, mul as ◌⊗◌}

  infixl 65 ◌⊕◌
  infixl 70 ◌⊗◌
  unfoldable pub α : F
  α = elem 2

  module _ (s : Shape) where
    unfoldable pub quad : List ℕ → ℕ → (ℕ → F) → (ℕ → F) → F
    quad key i f g = form R s.n (a_sym A s key i) f g

    unfoldable pub lin : List ℕ → ℕ → (ℕ → F) → F
    lin key i f = sum R s.n (λ c. b_sym A s key i c ⊗ f c)

    unfoldable pub y_of : List ℕ → ℕ → F
    y_of key i = y_sym A s key i

    unfoldable pub error : List ℕ → ℕ → (ℕ → F) → F
    error key i f = quad key i f f ⊕ lin key i f ⊕ y_of key i

    unfoldable pub middle : List ℕ → ℕ → (ℕ → F) → (ℕ → F) → F
    middle key i f g = quad key i f g ⊕ quad key i g f ⊕ lin key i f

    unfoldable pub h : List ℕ → ℕ → ℕ → F
    h H' ρ c = cond (ltb c (k_of A s)) (sym A (block_at H' (width (k_of A s)) ρ) c) (cond (eqb c (k_of A s + ρ)) 𝟙 𝟘)

    unfoldable pub hash : List ℕ → ℕ → (ℕ → F) → F
    hash H' ρ f = sum R (l_of A s) (λ c. h H' ρ c ⊗ f c)

    unfoldable pub mask_of : ℕ → (ℕ → F) → F
    mask_of e f = sum R masks (λ i. power R α i ⊗ f (mask_at A s e + i))

    unfoldable pub χAt : List ℕ → ℕ → ℕ → F
    χAt χ e i = elem_at A χ (e * s.m + i)

    unfoldable pub batch : List ℕ → ℕ → (ℕ → F) → F
    batch χ e f = sum R s.m (λ i. χAt χ e i ⊗ f i)
