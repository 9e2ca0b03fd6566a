-- `questions::inputs::batching_form` meets its contract. It puts its question.
-- Assumes nothing.
use Rattle.format.proofs.AllLaws.{all_one}
use Rattle.format.proofs.AskLaws.{same_first}
use Rattle.questions.proofs.inputs.batching_form.Goals as goal

pub returns : goal.returns
returns c = same_first 17 0 _ (all_one c.elements.ensures) c.ask.ensures
