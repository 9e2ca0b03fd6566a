-- `forms_choices::fives::groups_for` meets its contract: the lesser is either of the two.
-- Assumes nothing.
use Rattle.std.proofs.Common.{arith}
use Rattle.forms_choices.proofs.fives.groups_for.Goals as goal

pub returns : goal.returns
returns c = ((omega arith, (λ h. omega arith), λ h. omega arith), omega arith)
