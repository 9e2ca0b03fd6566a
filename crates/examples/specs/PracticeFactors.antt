-- How many values of Δ_0 pass for the practice key: every one for its proof, one with QS1 changed, and none with QS0
-- changed. proofs/PracticeFactors computes it; the numbers are those of the rendering (tests/reference).
--   passing p == how many pass for the proof p
-- Assumes nothing.
use Rattle.std.specs.Prelude.{◌≡◌, true, List, [], ℕ}
use Rattle.protocol.specs.Binary.{bits16}
use Rattle.protocol.specs.Calls.{well_formed}
use Rattle.protocol.specs.Counting.{factor}
use Rattle.protocol.specs.SmallExample.{four, changed}
use Rattle.protocol.specs.PracticeKey.{key, leaves, H', proof}

abbrev pub passing : List ℕ → ℕ
passing p = factor bits16 key leaves H' [] p 0

pub record PracticeFactors : Type 0 where
  pub well_formed_lem : well_formed four key leaves H' [] proof ≡ true
  pub QS1_well_formed : well_formed four key leaves H' [] (changed proof 28 0x01) ≡ true
  pub honest-passes : passing proof ≡ 16
  pub QS1-passes : passing (changed proof 28 0x01) ≡ 1
  pub QS0-passes : passing (changed proof 23 0x01) ≡ 0
