-- The hash and the mask of a sum; and the middle coefficient depends only on the coordinates that it reads.
-- Assumes nothing.
use mathlib.Core.Path.{◌≡◌, ap₂, ◌∙◌}
use mathlib.Core.List.{List}
use Prim.Native.Nat.{ℕ, ◌<◌}
use Rattle.algebra.proofs.SumLaws.{sum_ext, sum-add}
use Rattle.protocol.specs.Alphabet.{Alphabet}
use Rattle.protocol.specs.Shape.{Shape, l_of}
use Rattle.protocol.specs.Forms.{middle, hash, mask_of}
use Rattle.theorems.proofs.FormLaws.{quad_congr, lin_congr}

module _ (A : Alphabet) (s : Shape) where
  open A use {K, masks}
  open K use {base}
  open base use {R}
  open R use {F, add as ◌⊕◌}

  infixl 65 ◌⊕◌
  pub hash-add : (H' : List ℕ) (ρ : ℕ) (f g : ℕ → F) → hash A s H' ρ (λ c. f c ⊕ g c) ≡ hash A s H' ρ f ⊕ hash A s H' ρ g
  unfolding hash
  hash-add H' ρ f g = sum_ext R (l_of A s) _ _ (λ c. R.mul-add _ _ _) ∙ sum-add R (l_of A s) _ _

  pub mask-add : (e : ℕ) (f g : ℕ → F) → mask_of A s e (λ c. f c ⊕ g c) ≡ mask_of A s e f ⊕ mask_of A s e g
  unfolding mask_of
  mask-add e f g = sum_ext R masks _ _ (λ i. R.mul-add _ _ _) ∙ sum-add R masks _ _

  pub middle_congr : (key : List ℕ) (i : ℕ) (f f' g g' : ℕ → F) → ((c : ℕ) → c < s.n → f c ≡ f' c) → ((c : ℕ) → c < s.n → g c ≡ g' c) → middle A s key i f g ≡ middle A s key i f' g'
  unfolding middle
  middle_congr key i f f' g g' e k = ap₂ ◌⊕◌ (ap₂ ◌⊕◌ (quad_congr A s key i f f' g g' e k) (quad_congr A s key i g g' f f' k e)) (lin_congr A s key i f f' e)
