-- `questions::inputs::opened_form` meets its contract: one leaf of each tree is missing.
-- Assumes nothing.
use mathlib.Core.Path.{ap, ◌∙◌}
use Prim.Native.Nat.{◌-◌}
use Rattle.protocol.specs.Shape.{per_opened}
use Rattle.protocol.specs.Answers.{ask}
use Rattle.format.specs.Sizes.{alphabet_for, shape_for}
use Rattle.questions.specs.Asking.{leaf_questions}
use Rattle.questions.proofs.inputs.opened_form.Goals as goal

pub returns : goal.returns
unfolding per_opened
returns c =
    let a = c.args in
    c.leaves_form.ensures ∙ ap (λ per. ask (leaf_questions (alphabet_for a.s) (shape_for a.s) (per - 1) a.opened.now)) c.tree_leaves.ensures.0
