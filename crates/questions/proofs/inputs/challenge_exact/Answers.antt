-- `questions::inputs::challenge_exact` meets its contract. It is the definition.
-- Assumes nothing.
use mathlib.Core.Path.{refl}
use Rattle.protocol.specs.Questions.{ΔExact}
use Rattle.questions.proofs.inputs.challenge_exact.Goals as goal

pub returns : goal.returns
unfolding ΔExact
returns c = refl
