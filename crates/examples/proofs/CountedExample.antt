-- The counts of accepted challenges, computed on the definitions: no theorem on factors is used.
-- Assumes nothing.
use mathlib.Core.Path.{refl}
use Rattle.protocol.proofs.Computing.{computing}
use Rattle.examples.specs.CountedExample.{key, leaves, H', χ, proof, Counts}

pub counts : Counts
unfolding computing key leaves H' χ proof
counts = record { honest = refl; d_changed = refl }
