-- u and v of the example with three repetitions, computed by walking the leaves.
-- Assumes nothing.
use mathlib.Core.Path.{◌≡◌, refl, ap, ◌∙◌}
use Prim.Native.Nat.{ℕ}
use Rattle.galois.specs.Gf256.{gf256}
use Rattle.protocol.specs.Shape.{shape_of}
use Rattle.protocol.proofs.Computing.{computing}
use Rattle.examples_full.specs.FullThree.{sizes, key, leaves, u-0, u-1, u_2, v-0, v-1, v_2, coordinates, ThreeSums}
use Rattle.examples_full.proofs.TreeLaws.{weighed, u_walked, v_walked}

abbrev one : ℕ → gf256.base.R.F
one j = gf256.base.R.𝟙

u_0_walked : coordinates (λ c. weighed gf256 sizes leaves 0 c one) ≡ u-0
unfolding computing leaves u-0
u_0_walked = refl

u_1_walked : coordinates (λ c. weighed gf256 sizes leaves 1 c one) ≡ u-1
unfolding computing leaves u-1
u_1_walked = refl

u_2_walked : coordinates (λ c. weighed gf256 sizes leaves 2 c one) ≡ u_2
unfolding computing leaves u_2
u_2_walked = refl

v_0_walked : coordinates (λ c. weighed gf256 sizes leaves 0 c gf256.elem) ≡ v-0
unfolding computing leaves v-0
v_0_walked = refl

v_1_walked : coordinates (λ c. weighed gf256 sizes leaves 1 c gf256.elem) ≡ v-1
unfolding computing leaves v-1
v_1_walked = refl

v_2_walked : coordinates (λ c. weighed gf256 sizes leaves 2 c gf256.elem) ≡ v_2
unfolding computing leaves v_2
v_2_walked = refl

header : shape_of key ≡ sizes
unfolding computing key
header = refl

pub three-sums : ThreeSums
three-sums = record {
  header_is = header;
  u_0_is = ap coordinates (λ i c. u_walked gf256 sizes leaves 0 c i) ∙ u_0_walked;
  u_1_is = ap coordinates (λ i c. u_walked gf256 sizes leaves 1 c i) ∙ u_1_walked;
  u_2_is = ap coordinates (λ i c. u_walked gf256 sizes leaves 2 c i) ∙ u_2_walked;
  v_0_is = ap coordinates (λ i c. v_walked gf256 sizes leaves 0 c i) ∙ v_0_walked;
  v_1_is = ap coordinates (λ i c. v_walked gf256 sizes leaves 1 c i) ∙ v_1_walked;
  v_2_is = ap coordinates (λ i c. v_walked gf256 sizes leaves 2 c i) ∙ v_2_walked;
}
