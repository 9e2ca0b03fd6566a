-- `format::ask` meets its contract: the question got a yes, or a no.
-- Assumes nothing.
use mathlib.Core.List.{[]}
use Rattle.format.proofs.AskLaws.{says_no, says_yes, says_all}
use Rattle.format.proofs.ask.Goals as goal

pub returns-then-yes : goal.returns-then-yes
returns-then-yes c = says_yes _ _ 0 [] c.if-yes.true says_all

pub returns : goal.returns
returns c = says_no _ _ 0 [] c.if-yes.false c.refuse.ensures
