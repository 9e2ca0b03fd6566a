-- `shake::Shake::absorb` meets its contract. What is left to absorb, absorbed by the state as it stands, gives the result.
-- Assumes nothing.
use Rattle.std.proofs.Common.{◌≡◌, ◌<◌, length}
use Rattle.sponge.specs.Sponge.{rate}
use Rattle.shake.specs.Pieces.{absorbed}
use Rattle.shake.specs.Held.{held}
use Rattle.shake.proofs.state.Shake.absorb.Given as goal

abbrev pub invariant-loop-rest : goal.invariant-loop-rest
invariant-loop-rest l = record { inside : l.at < rate; same : absorbed (l.lanes, l.at) l.rest ≡ absorbed (held l.fn.self) l.piece }

abbrev pub decreases-loop-rest : goal.decreases-loop-rest
decreases-loop-rest l = length l.rest
