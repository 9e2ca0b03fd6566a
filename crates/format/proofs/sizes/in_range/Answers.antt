-- `format::sizes::in_range` meets its contract. Both tests, and their conjunction, are the definition's.
-- Assumes nothing.
use mathlib.Core.Path.{refl}
use Rattle.protocol.specs.Shape.{within}
use Rattle.format.proofs.sizes.in_range.Goals as goal

pub returns : goal.returns
unfolding within
returns c = refl
