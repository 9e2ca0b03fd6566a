-- `questions::inputs::batching_exact` meets its contract. The length compared is the definition's.
-- Assumes nothing.
use Rattle.protocol.specs.Questions.{χExact}
use Rattle.questions.proofs.inputs.batching_exact.Goals as goal

pub returns : goal.returns
unfolding χExact
returns c = rw c.batching_bytes.ensures
