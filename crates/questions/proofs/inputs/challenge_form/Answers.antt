-- `questions::inputs::challenge_form` meets its contract. It puts its question.
-- Assumes nothing.
use Rattle.format.proofs.AllLaws.{all_two}
use Rattle.format.proofs.AskLaws.{same_first}
use Rattle.questions.proofs.inputs.challenge_form.Goals as goal

pub returns : goal.returns
returns c = same_first 17 0 _ (all_two c.elements.ensures c.elements-2.ensures) c.ask.ensures
