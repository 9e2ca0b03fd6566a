-- `format::sizes::bytes_for` meets its contract. It is the definition.
-- Assumes nothing.
use mathlib.Core.Path.{refl}
use Rattle.protocol.specs.Strings.{bytes_for}
use Rattle.format.proofs.sizes.bytes_for.Goals as goal

pub returns : goal.returns
unfolding bytes_for
returns c = refl
