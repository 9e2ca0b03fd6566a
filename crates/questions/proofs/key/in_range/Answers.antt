-- `questions::key::in_range` meets its contract: both questions get a yes.
-- Assumes nothing.
use mathlib.Core.Path.{ap₂}
use mathlib.Core.Bool.{◌&&◌}
use Rattle.questions.proofs.key.in_range.Goals as goal

pub returns : goal.returns
returns c = ap₂ ◌&&◌ c.degree_served.ensures c.in_limits.ensures
