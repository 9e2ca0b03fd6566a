-- The practice key's factors, computed on the definitions.
-- Assumes nothing.
use mathlib.Core.Path.{refl}
use Rattle.protocol.specs.PracticeKey.{key, leaves, proof}
use Rattle.protocol.proofs.Computing.{computing}
use Rattle.examples.specs.PracticeFactors.{PracticeFactors}

pub practice_factors : PracticeFactors
unfolding computing key leaves proof
practice_factors = record { well_formed_lem = refl; QS1_well_formed = refl; honest-passes = refl; QS1-passes = refl; QS0-passes = refl }
