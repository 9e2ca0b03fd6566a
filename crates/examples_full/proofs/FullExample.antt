-- The full example's bytes, computed from the tables of u and v.
-- Assumes nothing.
use mathlib.Core.Path.{◌≡◌, refl, ap, ◌∙◌}
use mathlib.Core.List.{[], ◌∷◌}
use Prim.Native.Nat.{ℕ, zero, suc, ◌<◌}
use native.Mathlib.Omega.{arith}
use lib.Dec.{lit<}
use Rattle.galois.specs.Gf256.{gf256}
use Rattle.protocol.specs.Binary.{bits256}
use Rattle.protocol.specs.Frames.{frame, count4}
use Rattle.protocol.specs.Sections.{Sections, bytes_of}
use Rattle.protocol.specs.Prover.{u, v, sections_of, proof_of}
use Rattle.protocol.proofs.Computing.{computing}
use Rattle.examples_full.specs.FullExample.{sizes, key, witness, leaves, H', χ, proof, u-0, u-1, v-0, v-1, FullBytes, FullProof}
use Rattle.examples_full.proofs.TableLaws.{entry, Near, near, c_of, masked_of, ũOf, ṼOf, qs0_of, qs1_of, c_is, d_is, ũ_is, Ṽ_is, qs0_is, qs1_is}
use Rattle.examples_full.proofs.FullSums.{full-sums}

abbrev pub û : ℕ → ℕ → gf256.base.R.F
û zero = entry gf256 sizes u-0
û (suc e) = entry gf256 sizes u-1

abbrev pub v̂ : ℕ → ℕ → gf256.base.R.F
v̂ zero = entry gf256 sizes v-0
v̂ (suc e) = entry gf256 sizes v-1

pub near_u : (e : ℕ) → e < 2 → Near gf256 sizes (u bits256 sizes leaves e) (û e)
near_u zero l = near gf256 sizes (u bits256 sizes leaves 0) u-0 full-sums.u_0_is
near_u (suc zero) l = near gf256 sizes (u bits256 sizes leaves 1) u-1 full-sums.u_1_is
near_u (suc (suc e)) l = absurd (omega arith)

pub near_v : (e : ℕ) → e < 2 → Near gf256 sizes (v bits256 sizes leaves e) (v̂ e)
near_v zero l = near gf256 sizes (v bits256 sizes leaves 0) v-0 full-sums.v_0_is
near_v (suc zero) l = near gf256 sizes (v bits256 sizes leaves 1) v-1 full-sums.v_1_is
near_v (suc (suc e)) l = absurd (omega arith)

c_computed : c_of gf256 sizes leaves û v̂ ≡ 0x48 ∷ 0xE6 ∷ 0xEE ∷ 0x2F ∷ []
unfolding computing u-0 u-1
c_computed = refl

d_computed : masked_of gf256 sizes leaves û v̂ witness ≡ 0x0B ∷ 0x01 ∷ []
unfolding computing u-0 witness
d_computed = refl

ũ_computed : ũOf gf256 sizes leaves û v̂ H' ≡ 0x19 ∷ []
unfolding computing u-0 H'
ũ_computed = refl

Ṽ_computed : ṼOf gf256 sizes leaves û v̂ H' ≡ 0x6F ∷ 0xCE ∷ 0x20 ∷ 0x8C ∷ 0x96 ∷ 0x17 ∷ 0xA6 ∷ 0x62 ∷ 0x52 ∷ 0x5B ∷ []
unfolding computing v-0 v-1 H'
Ṽ_computed = refl

qs0_computed : qs0_of gf256 sizes leaves û v̂ key χ ≡ 0x67 ∷ 0xCE ∷ []
unfolding computing v-0 v-1 key χ
qs0_computed = refl

qs1_computed : qs1_of gf256 sizes leaves û v̂ key witness χ ≡ 0x52 ∷ 0x56 ∷ []
unfolding computing u-0 v-0 v-1 key witness χ
qs1_computed = refl

pub full-bytes : FullBytes
full-bytes = record {
  C_is = c_is gf256 sizes leaves û v̂ (lit< tt) near_u near_v ∙ c_computed;
  d_is = d_is gf256 sizes leaves û v̂ (lit< tt) near_u near_v witness ∙ d_computed;
  ũ_is = ũ_is gf256 sizes leaves û v̂ (lit< tt) near_u near_v H' ∙ ũ_computed;
  Ṽ_is = Ṽ_is gf256 sizes leaves û v̂ (lit< tt) near_u near_v H' ∙ Ṽ_computed;
  QS0_is = qs0_is gf256 sizes leaves û v̂ (lit< tt) near_u near_v key χ ∙ qs0_computed;
  QS1_is = qs1_is gf256 sizes leaves û v̂ (lit< tt) near_u near_v key witness χ ∙ qs1_computed;
}

pub full-proof : FullProof
unfolding proof_of bytes_of frame count4 proof
full-proof = ap (λ s. bytes_of (sections_of bits256 s leaves key witness H' χ)) full-sums.header_is ∙ (λ i. bytes_of (sections i))
  where
    sections : (i : 𝕀) → Sections
    sections i = record {
      C = full-bytes.C_is i;
      d = full-bytes.d_is i;
      ũ = full-bytes.ũ_is i;
      Ṽ = full-bytes.Ṽ_is i;
      QS0 = full-bytes.QS0_is i;
      QS1 = full-bytes.QS1_is i;
    }
