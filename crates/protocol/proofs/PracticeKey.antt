-- The practice key, computed on the definitions.
-- Assumes nothing.
use mathlib.Core.Path.{refl}
use Rattle.protocol.specs.PracticeKey.{key, leaves, proof, PracticeKey}
use Rattle.protocol.proofs.Computing.{computing}

pub practice_key : PracticeKey
unfolding computing key leaves proof
practice_key = record {
  key-length = refl;
  proof_is = refl;
  any-fits = refl;
  prove-taken = refl;
  verify-taken = refl;
  one-byte-batch = refl;
  one-byte-prove = refl;
  one-byte-verify = refl;
  no_variables = refl;
}
