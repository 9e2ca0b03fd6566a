-- Factors of an example: the coefficients of the conditions are computed, and the elements that pass them counted.
--   passed p e == how many elements pass the conditions of repetition e;  both == from these, the factors of two
--     repetitions
-- Assumes nothing.
use mathlib.Core.Path.{◌≡◌, ap₂, ◌∙◌}
use mathlib.Core.Bool.{true}
use mathlib.Core.List.{List, [], ◌∷◌}
use Prim.Native.Nat.{ℕ, ◌<◌}
use native.Mathlib.Omega.{arith}
use Rattle.algebra.specs.Count.{count}
use Rattle.algebra.specs.Roots.{passing}
use Rattle.protocol.specs.Alphabet.{Alphabet}
use Rattle.protocol.specs.Shape.{shape_of, per_tree}
use Rattle.protocol.specs.Sections.{sections_in}
use Rattle.protocol.specs.Questions.{leaves_exact}
use Rattle.protocol.specs.Counting.{factor}
use Rattle.protocol.specs.Coefficients.{conditions}
use Rattle.theorems.proofs.Theorems.{factor_is}

module _ (A : Alphabet) (key leaves H' χ : List ℕ) (k7 : leaves_exact A (shape_of key) (per_tree A) leaves ≡ true) (two : 1 < (shape_of key).τ) (p : List ℕ) where
  abbrev pub passed : ℕ → ℕ
  passed e = count (passing A.K.base (conditions A (shape_of key) key leaves H' χ (sections_in A (shape_of key) p) e)) A.K.base.elements

  pub both : (a b : ℕ) → passed 0 ≡ a → passed 1 ≡ b → factor A key leaves H' χ p 0 ∷ factor A key leaves H' χ p 1 ∷ [] ≡ a ∷ b ∷ []
  both a b f g = ap₂ (λ x y. x ∷ y ∷ []) (factor_is A key leaves H' χ p k7 0 (omega arith) ∙ f) (factor_is A key leaves H' χ p k7 1 two ∙ g)
