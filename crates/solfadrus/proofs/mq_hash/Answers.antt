-- `solfadrus::mq_hash` meets its contract: the answer's number is the call's.
-- Assumes nothing.
use mathlib.Core.Path.{ap, ◌∙◌}
use Rattle.protocol.specs.Answers.{word}
use Rattle.solfadrus.proofs.mq_hash.Goals as goal

pub returns : goal.returns
returns c =
    let told = c.hash in
    (c.from.ensures ∙ ap word told.ensures.result_value, rw told.ensures.result_value at told.ensures.hash_output)
