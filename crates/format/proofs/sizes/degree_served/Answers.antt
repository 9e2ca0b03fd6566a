-- `format::sizes::degree_served` meets its contract: the two tests are the definition's.
-- Assumes nothing.
use mathlib.Core.Path.{refl}
use Rattle.protocol.specs.Setting.{served}
use Rattle.format.proofs.sizes.degree_served.Goals as goal

pub returns : goal.returns
unfolding served
returns c = refl
