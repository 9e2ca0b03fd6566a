-- `shake::Shake::new` meets its contract. Assumes nothing.
use Rattle.std.proofs.Common.{refl, rules}
use Rattle.shake.specs.Pieces.{fresh}
use Rattle.shake.proofs.state.Shake.new.Goals as goal

pub returns : goal.returns
unfolding fresh
returns c = record { state = refl; inside = search rules }
