-- `questions::inputs::full_form` meets its contract: the leaves of a tree are as many as the field has elements.
-- Assumes nothing.
use mathlib.Core.Path.{ap, ◌∙◌}
use Rattle.protocol.specs.Answers.{ask}
use Rattle.format.specs.Sizes.{alphabet_for, shape_for}
use Rattle.questions.specs.Asking.{leaf_questions}
use Rattle.questions.proofs.inputs.full_form.Goals as goal

pub returns : goal.returns
returns c =
    let a = c.args in
    c.leaves_form.ensures ∙ ap (λ per. ask (leaf_questions (alphabet_for a.s) (shape_for a.s) per a.leaves.now)) c.tree_leaves.ensures.0
