-- The whole proof of ThreeRepetitions: its QS0 and QS1 have the masks of three repetitions. The verifier takes it, and
-- refuses it with the rows of C exchanged. proofs/ThreeProof computes this, with bytes of sitting 1 of the vectors
-- masks-degree4.rsp (tests/reference), made from the papers by other hands.
-- Assumes nothing.
use Rattle.std.specs.Prelude.{◌≡◌, [], ◌∷◌}
use Rattle.protocol.specs.Binary.{bits16}
use Rattle.protocol.specs.Prover.{proof_of}
use Rattle.protocol.specs.Answers.{accepted, refused}
use Rattle.protocol.specs.ThreeRepetitions.{key, witness, leaves, H', χ, proof_with, reply}

pub record ThreeProof : Type 0 where
  pub proof_is : proof_of bits16 key leaves witness H' χ ≡ proof_with (0x15 ∷ 0x2E ∷ 0x03 ∷ 0xA4 ∷ 0x78 ∷ 0x03 ∷ [])
  pub accepts : reply (proof_with (0x15 ∷ 0x2E ∷ 0x03 ∷ 0xA4 ∷ 0x78 ∷ 0x03 ∷ [])) ≡ accepted
  pub exchanged : reply (proof_with (0xA4 ∷ 0x78 ∷ 0x03 ∷ 0x15 ∷ 0x2E ∷ 0x03 ∷ [])) ≡ refused 15 1
