-- The whole proof of ThreeRepetitions, computed on the definitions.
-- Assumes nothing.
use mathlib.Core.Path.{refl}
use Rattle.protocol.specs.ThreeRepetitions.{key, witness, leaves, H', χ, Δ, proof_with}
use Rattle.protocol.proofs.Computing.{computing}
use Rattle.examples.specs.ThreeProof.{ThreeProof}

pub three-proof : ThreeProof
unfolding computing key witness leaves H' χ Δ proof_with
three-proof = record { proof_is = refl; accepts = refl; exchanged = refl }
