-- `solfadrus::mq_batch` meets its contract: the answer's number is the call's.
-- Assumes nothing.
use mathlib.Core.Path.{ap, ◌∙◌}
use Rattle.protocol.specs.Answers.{word}
use Rattle.solfadrus.proofs.mq_batch.Goals as goal

pub returns : goal.returns
returns c =
    let told = c.batch in
    (c.from.ensures ∙ ap word told.ensures.result_value, rw told.ensures.result_value at told.ensures.batch_output)
