-- `strings::bit_at` meets its contract, which is how a coordinate is defined.
-- Assumes nothing.
use mathlib.Core.Path.{refl}
use Rattle.protocol.specs.Strings.{bit}
use Rattle.strings.proofs.bit_at.Goals as goal

pub returns : goal.returns
unfolding bit
returns c = refl
