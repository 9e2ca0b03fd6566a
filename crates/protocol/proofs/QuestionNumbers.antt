-- The numbers of the questions that each call puts, computed.
-- Assumes nothing.
use mathlib.Core.Path.{refl}
use Rattle.protocol.specs.Setting.{Setting}
use Rattle.protocol.specs.QuestionNumbers.{QuestionNumbers}

pub question-numbers : (g : Setting) → QuestionNumbers g
question-numbers g = record {
  test_puts_lem = λ key x. refl;
  commit_puts_lem = λ key leaves x out. refl;
  hash_puts = λ key leaves H' out. refl;
  batch_puts_lem = λ key leaves x χ out. refl;
  prove_puts_lem = λ key leaves x H' χ out. refl;
  verify_puts_lem = λ key Δ H' χ opened proof. refl;
  honest = λ key leaves x H' χ. refl;
  well_formed_lem = λ key leaves H' χ proof. refl;
}
