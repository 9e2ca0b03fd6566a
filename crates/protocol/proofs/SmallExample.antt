-- The small example's key, bytes and answers, computed on the definitions.
-- Assumes nothing.
use mathlib.Core.Path.{refl, ap, ◌∙◌}
use Rattle.protocol.specs.Frames.{frame, count4}
use Rattle.protocol.specs.Binary.{bits16}
use Rattle.protocol.specs.Sections.{Sections, bytes_of}
use Rattle.protocol.specs.Prover.{sections_of, proof_of}
use Rattle.protocol.specs.SmallExample.{key, witness, leaves, H', χ, Δ, proof, opened, SmallKey, SmallColumns, SmallBytes, SmallProof, SmallReplies}
use Rattle.protocol.proofs.Computing.{computing}

pub small-key : SmallKey
unfolding computing key
small-key = record { row_1_2 = refl; linear_1 = refl; constants_are = refl; constants-changed = refl }

pub small-columns : SmallColumns
unfolding computing
small-columns = record { columns_are = refl }

pub small_bytes : SmallBytes
unfolding computing key witness leaves H' χ
small_bytes = record { header_is = refl; C_is = refl; d_is = refl; ũ_is = refl; Ṽ_is = refl; QS0_is = refl; QS1_is = refl }

pub small-proof : SmallProof
unfolding proof_of bytes_of frame count4 proof
small-proof = ap (λ s. bytes_of (sections_of bits16 s leaves key witness H' χ)) small_bytes.header_is ∙ (λ i. bytes_of (sections i))
  where
    sections : (i : 𝕀) → Sections
    sections i = record {
      C = small_bytes.C_is i;
      d = small_bytes.d_is i;
      ũ = small_bytes.ũ_is i;
      Ṽ = small_bytes.Ṽ_is i;
      QS0 = small_bytes.QS0_is i;
      QS1 = small_bytes.QS1_is i;
    }

pub small_replies : SmallReplies
unfolding computing key witness leaves H' χ Δ proof opened
small_replies = record { opening_is = refl; accepts = refl; first-named = refl; fourteen-first = refl; candidate_is = refl; candidate-changed = refl }
