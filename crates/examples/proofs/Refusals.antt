-- The refusals of each call, computed.
-- Assumes nothing.
use mathlib.Core.Path.{refl}
use Rattle.protocol.specs.SmallExample.{key, witness, leaves, H', χ, Δ, proof, opened}
use Rattle.examples.specs.Refusals.{Refusals, Taken}
use Rattle.protocol.proofs.Computing.{computing}

pub refusals_are : Refusals
unfolding computing key witness leaves H' χ Δ proof opened
refusals_are = record { test-refused = refl; commit-refused = refl; hash-refused = refl; batch-refused = refl; prove-refused = refl; verify-refused = refl }

pub all-taken : Taken
unfolding computing key witness leaves H' χ
all-taken = record { test-taken = refl; commit-taken = refl; hash-taken = refl; batch-taken = refl; prove-taken = refl }
