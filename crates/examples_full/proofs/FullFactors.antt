-- The factors of the full example's changed proofs: the coefficients of the conditions are computed from the tables of
-- u and v.
-- Assumes nothing.
use mathlib.Core.Path.{◌≡◌, refl, ap₂, ◌∙◌}
use mathlib.Core.Bool.{true}
use mathlib.Core.List.{List, [], ◌∷◌}
use Prim.Native.Nat.{ℕ, ◌<◌}
use lib.Dec.{lit<}
use Rattle.galois.specs.Gf256.{gf256}
use Rattle.protocol.specs.Binary.{bits256}
use Rattle.protocol.specs.Shape.{shape_of, per_tree}
use Rattle.protocol.specs.Questions.{leaves_exact}
use Rattle.protocol.specs.Counting.{factor}
use Rattle.protocol.specs.SmallExample.{changed}
use Rattle.protocol.proofs.Computing.{computing}
use Rattle.examples_full.specs.FullExample.{sizes, key, leaves, H', χ, proof, u-0, u-1, v-0, v-1, factors, FullFactors}
use Rattle.examples_full.proofs.FactorLaws.{passed_from, factor-from}
use Rattle.examples_full.proofs.FullSums.{full-sums}
use Rattle.examples_full.proofs.FullExample.{û, v̂, near_u, near_v}

exact : leaves_exact bits256 (shape_of key) (per_tree bits256) leaves ≡ true
unfolding computing key leaves
exact = refl

abbrev passed : List ℕ → ℕ → ℕ
passed p e = passed_from gf256 sizes key leaves H' χ full-sums.header_is exact p e (û e) (v̂ e)

factor-passed : (p : List ℕ) (e : ℕ) → e < 2 → factor bits256 key leaves H' χ p e ≡ passed p e
factor-passed p e l = factor-from gf256 sizes key leaves H' χ full-sums.header_is exact p e (û e) (v̂ e) l (near_u e l) (near_v e l)

both : (p : List ℕ) (a b : ℕ) → passed p 0 ≡ a → passed p 1 ≡ b → factors p ≡ a ∷ b ∷ []
both p a b f g = ap₂ (λ x y. x ∷ y ∷ []) (factor-passed p 0 (lit< tt) ∙ f) (factor-passed p 1 (lit< tt) ∙ g)

c_factors : factors (changed proof 4 1) ≡ 256 ∷ 1 ∷ []
unfolding computing key H' χ proof u-0 u-1 v-0 v-1
c_factors = both (changed proof 4 1) 256 1 refl refl

d_factors : factors (changed proof 12 1) ≡ 2 ∷ 1 ∷ []
unfolding computing key H' χ proof u-0 u-1 v-0 v-1
d_factors = both (changed proof 12 1) 2 1 refl refl

pub full-factors : FullFactors
full-factors = record { C-factors = c_factors; d_factors = d_factors }
