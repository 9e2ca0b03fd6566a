-- The example with three repetitions, computed on the definitions.
-- Assumes nothing.
use mathlib.Core.Path.{refl}
use Rattle.protocol.specs.ThreeRepetitions.{key, leaves, H', χ, Δ, proof_with, ThreeRepetitions}
use Rattle.protocol.proofs.Computing.{computing}

pub three_repetitions : ThreeRepetitions
unfolding computing key leaves H' χ Δ proof_with
three_repetitions = record { header_is = refl; C_is = refl; first-spare-set = refl; second-spare-set = refl }
