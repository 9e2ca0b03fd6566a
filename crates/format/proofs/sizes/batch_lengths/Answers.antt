-- `format::sizes::batch_lengths` meets its contract. It is the definition.
-- Assumes nothing.
use mathlib.Core.Path.{refl}
use Rattle.protocol.specs.Sections.{batch_lengths}
use Rattle.format.proofs.sizes.batch_lengths.Goals as goal

pub returns : goal.returns
unfolding batch_lengths
returns c = refl
