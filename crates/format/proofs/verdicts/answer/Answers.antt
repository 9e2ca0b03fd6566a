-- `format::verdicts::answer` meets its contract: the question gets a no where one fails, and else a yes.
-- Assumes nothing.
use mathlib.Core.Path.{ap, ◌∙◌}
use mathlib.Core.List.{[]}
use Rattle.protocol.specs.Answers.{refused}
use Rattle.format.specs.Verdict.{number_for}
use Rattle.format.proofs.AskLaws.{says_no, says_yes, says_all}
use Rattle.format.proofs.FirstLaws.{some_fails, none_fails}
use Rattle.format.proofs.verdicts.answer.Goals as goal

pub returns-in-Some : goal.returns-in-Some
returns-in-Some c n p first =
    let is = rw c.in-Some.is at first in
    says_no _ _ _ [] (some_fails n p c.in-Some.i is) (c.refuse.ensures ∙ ap (refused (number_for c.args.reason)) is.1)

pub returns-in-None : goal.returns-in-None
returns-in-None c n p first = says_yes _ _ _ [] (none_fails n p (rw c.in-None.is at first)) says_all
