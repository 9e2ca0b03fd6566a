-- The bytes and factors of the example with three repetitions, computed from the tables of u and v.
-- Assumes nothing.
use mathlib.Core.Path.{◌≡◌, refl, ap, ◌∙◌}
use mathlib.Core.Bool.{true}
use mathlib.Core.List.{List, [], ◌∷◌}
use Prim.Native.Nat.{ℕ, zero, suc, ◌<◌}
use native.Mathlib.Omega.{arith}
use lib.Dec.{lit<}
use Rattle.galois.specs.Gf256.{gf256}
use Rattle.protocol.specs.Binary.{bits256}
use Rattle.protocol.specs.Frames.{frame, count4}
use Rattle.protocol.specs.Shape.{shape_of, per_tree}
use Rattle.protocol.specs.Sections.{Sections, bytes_of}
use Rattle.protocol.specs.Prover.{u, v, sections_of, proof_of}
use Rattle.protocol.specs.Questions.{leaves_exact}
use Rattle.protocol.specs.Counting.{factor}
use Rattle.protocol.specs.SmallExample.{changed}
use Rattle.protocol.proofs.Computing.{computing}
use Rattle.examples_full.specs.FullThree.{sizes, key, witness, leaves, H', χ, proof, u-0, u-1, u_2, v-0, v-1, v_2, factors, ThreeBytes, ThreeProof, ThreeFactors}
use Rattle.examples_full.proofs.TableLaws.{entry, Near, near, c_of, masked_of, ũOf, ṼOf, qs0_of, qs1_of, c_is, d_is, ũ_is, Ṽ_is, qs0_is, qs1_is}
use Rattle.examples_full.proofs.FactorLaws.{passed_from, factor-from}
use Rattle.examples_full.proofs.ThreeSums.{three-sums}

abbrev û : ℕ → ℕ → gf256.base.R.F
û zero = entry gf256 sizes u-0
û (suc zero) = entry gf256 sizes u-1
û (suc (suc e)) = entry gf256 sizes u_2

abbrev v̂ : ℕ → ℕ → gf256.base.R.F
v̂ zero = entry gf256 sizes v-0
v̂ (suc zero) = entry gf256 sizes v-1
v̂ (suc (suc e)) = entry gf256 sizes v_2

near_u : (e : ℕ) → e < 3 → Near gf256 sizes (u bits256 sizes leaves e) (û e)
near_u zero l = near gf256 sizes (u bits256 sizes leaves 0) u-0 three-sums.u_0_is
near_u (suc zero) l = near gf256 sizes (u bits256 sizes leaves 1) u-1 three-sums.u_1_is
near_u (suc (suc zero)) l = near gf256 sizes (u bits256 sizes leaves 2) u_2 three-sums.u_2_is
near_u (suc (suc (suc e))) l = absurd (omega arith)

near_v : (e : ℕ) → e < 3 → Near gf256 sizes (v bits256 sizes leaves e) (v̂ e)
near_v zero l = near gf256 sizes (v bits256 sizes leaves 0) v-0 three-sums.v_0_is
near_v (suc zero) l = near gf256 sizes (v bits256 sizes leaves 1) v-1 three-sums.v_1_is
near_v (suc (suc zero)) l = near gf256 sizes (v bits256 sizes leaves 2) v_2 three-sums.v_2_is
near_v (suc (suc (suc e))) l = absurd (omega arith)

c_computed : c_of gf256 sizes leaves û v̂ ≡ 0xE1 ∷ 0x0C ∷ 0x7C ∷ 0x53 ∷ 0x00 ∷ 0x73 ∷ 0x68 ∷ 0x3B ∷ 0x1C ∷ 0x01 ∷ []
unfolding computing u-0 u-1 u_2
c_computed = refl

d_computed : masked_of gf256 sizes leaves û v̂ witness ≡ 0x15 ∷ []
unfolding computing u-0 witness
d_computed = refl

ũ_computed : ũOf gf256 sizes leaves û v̂ H' ≡ 0x0A ∷ []
unfolding computing u-0 H'
ũ_computed = refl

Ṽ_computed : ṼOf gf256 sizes leaves û v̂ H' ≡ 0x76 ∷ 0xAC ∷ 0xFC ∷ 0xA4 ∷ 0xE6 ∷ 0x13 ∷ 0x59 ∷ 0x93 ∷ 0x29 ∷ 0x18 ∷ 0xAF ∷ 0x5A ∷ []
unfolding computing v-0 v-1 v_2 H'
Ṽ_computed = refl

qs0_computed : qs0_of gf256 sizes leaves û v̂ key χ ≡ 0x0D ∷ 0x20 ∷ 0x18 ∷ []
unfolding computing v-0 v-1 v_2 key χ
qs0_computed = refl

qs1_computed : qs1_of gf256 sizes leaves û v̂ key witness χ ≡ 0xFD ∷ 0x35 ∷ 0xA7 ∷ []
unfolding computing u-0 v-0 v-1 v_2 key witness χ
qs1_computed = refl

pub three-bytes : ThreeBytes
three-bytes = record {
  C_is = c_is gf256 sizes leaves û v̂ (lit< tt) near_u near_v ∙ c_computed;
  d_is = d_is gf256 sizes leaves û v̂ (lit< tt) near_u near_v witness ∙ d_computed;
  ũ_is = ũ_is gf256 sizes leaves û v̂ (lit< tt) near_u near_v H' ∙ ũ_computed;
  Ṽ_is = Ṽ_is gf256 sizes leaves û v̂ (lit< tt) near_u near_v H' ∙ Ṽ_computed;
  QS0_is = qs0_is gf256 sizes leaves û v̂ (lit< tt) near_u near_v key χ ∙ qs0_computed;
  QS1_is = qs1_is gf256 sizes leaves û v̂ (lit< tt) near_u near_v key witness χ ∙ qs1_computed;
}

pub three-proof : ThreeProof
unfolding proof_of bytes_of frame count4 proof
three-proof = ap (λ s. bytes_of (sections_of bits256 s leaves key witness H' χ)) three-sums.header_is ∙ (λ i. bytes_of (sections i))
  where
    sections : (i : 𝕀) → Sections
    sections i = record {
      C = three-bytes.C_is i;
      d = three-bytes.d_is i;
      ũ = three-bytes.ũ_is i;
      Ṽ = three-bytes.Ṽ_is i;
      QS0 = three-bytes.QS0_is i;
      QS1 = three-bytes.QS1_is i;
    }

exact : leaves_exact bits256 (shape_of key) (per_tree bits256) leaves ≡ true
unfolding computing key leaves
exact = refl

abbrev passed : List ℕ → ℕ → ℕ
passed p e = passed_from gf256 sizes key leaves H' χ three-sums.header_is exact p e (û e) (v̂ e)

factor-passed : (p : List ℕ) (e : ℕ) → e < 3 → factor bits256 key leaves H' χ p e ≡ passed p e
factor-passed p e l = factor-from gf256 sizes key leaves H' χ three-sums.header_is exact p e (û e) (v̂ e) l (near_u e l) (near_v e l)

all_three : (p : List ℕ) (a b c : ℕ) → passed p 0 ≡ a → passed p 1 ≡ b → passed p 2 ≡ c → factors p ≡ a ∷ b ∷ c ∷ []
all_three p a b c f g h = λ i. (factor-passed p 0 (lit< tt) ∙ f) i ∷ (factor-passed p 1 (lit< tt) ∙ g) i ∷ (factor-passed p 2 (lit< tt) ∙ h) i ∷ []

honest-factors : factors proof ≡ 256 ∷ 256 ∷ 256 ∷ []
unfolding computing key H' χ proof u-0 u-1 u_2 v-0 v-1 v_2
honest-factors = all_three proof 256 256 256 refl refl refl

C-factors : factors (changed proof 4 1) ≡ 256 ∷ 2 ∷ 256 ∷ []
unfolding computing key H' χ proof u-0 u-1 u_2 v-0 v-1 v_2
C-factors = all_three (changed proof 4 1) 256 2 256 refl refl refl

d_factors : factors (changed proof 18 1) ≡ 2 ∷ 2 ∷ 2 ∷ []
unfolding computing key H' χ proof u-0 u-1 u_2 v-0 v-1 v_2
d_factors = all_three (changed proof 18 1) 2 2 2 refl refl refl

pub three-factors : ThreeFactors
three-factors = record {
  honest-factors = honest-factors;
  C-factors = C-factors;
  d_factors = d_factors;
}
