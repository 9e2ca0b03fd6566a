-- `solfadrus::mq_test` meets its contract: the answer's number is the call's.
-- Assumes nothing.
use mathlib.Core.Path.{ap, ◌∙◌}
use Rattle.protocol.specs.Answers.{word}
use Rattle.solfadrus.proofs.mq_test.Goals as goal

pub returns : goal.returns
returns c = c.from.ensures ∙ ap word c.test.ensures
