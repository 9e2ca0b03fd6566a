-- `sections::section` meets its contract. A part of a slice.
-- Assumes nothing.
use mathlib.Core.Path.{refl}
use Rattle.protocol.specs.Lists.{part}
use Rattle.sections.proofs.section.Goals as goal

pub returns : goal.returns
unfolding part
returns c = refl
