-- Factors from tables of u_e and v_e: the coefficients of the conditions are computed, and the elements that pass them
-- counted.
--   passed_from û v̂ == how many pass the conditions of a repetition, with any vectors for u_e and v_e
-- Assumes nothing.
use mathlib.Core.Path.{◌≡◌, sym, ap, ◌∙◌, subst}
use mathlib.Core.Bool.{true}
use mathlib.Core.List.{List}
use Prim.Native.Nat.{ℕ, ◌<◌}
use Rattle.algebra.specs.Coded.{Coded}
use Rattle.algebra.specs.Count.{count}
use Rattle.algebra.specs.Roots.{passing}
use Rattle.protocol.specs.Binary.{binary}
use Rattle.protocol.specs.Shape.{Shape, shape_of, per_tree}
use Rattle.protocol.specs.Sections.{sections_in}
use Rattle.protocol.specs.Prover.{u, v}
use Rattle.protocol.specs.Questions.{leaves_exact}
use Rattle.protocol.specs.Counting.{factor}
use Rattle.protocol.specs.Coefficients.{conditions}
use Rattle.theorems.proofs.Theorems.{factor_is}
use Rattle.examples_full.proofs.TableLaws.{Near, conditions_of, conditions_is}

module _ (K : Coded) (s : Shape) (key leaves H' χ : List ℕ) (header : shape_of key ≡ s) (k7 : leaves_exact (binary K) (shape_of key) (per_tree (binary K)) leaves ≡ true)
    (p : List ℕ) (e : ℕ) (û v̂ : ℕ → K.base.R.F) where
  abbrev pub passed_from : ℕ
  passed_from = count (passing K.base (conditions_of K s key leaves H' χ (sections_in (binary K) s p) e û v̂)) K.base.elements

  pub factor-from : e < s.τ → Near K s (u (binary K) s leaves e) û → Near K s (v (binary K) s leaves e) v̂ → factor (binary K) key leaves H' χ p e ≡ passed_from
  factor-from l near_u near_v =
      factor_is (binary K) key leaves H' χ p k7 e (subst (λ z. e < z.τ) (sym header) l)
      ∙ ap (λ z. count (passing K.base (conditions (binary K) z key leaves H' χ (sections_in (binary K) z p) e)) K.base.elements) header
      ∙ ap (λ c. count (passing K.base c) K.base.elements) (conditions_is K s key leaves H' χ (sections_in (binary K) s p) e û v̂ l near_u near_v)
