-- `questions::inputs::hash_matrix_exact` meets its contract. The length compared is the definition's.
-- Assumes nothing.
use Rattle.protocol.specs.Questions.{h_exact}
use Rattle.questions.proofs.inputs.hash_matrix_exact.Goals as goal

pub returns : goal.returns
unfolding h_exact
returns c = rw c.hash_matrix_bytes.ensures
