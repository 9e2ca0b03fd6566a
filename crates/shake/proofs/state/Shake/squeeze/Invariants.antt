-- `shake::Shake::squeeze` meets its contract. The bytes passed are the first of those to give, and the state is the one
-- after them.
-- Assumes nothing.
use Rattle.std.proofs.Common.{◌≡◌, ◌<◌, ◌≤◌, ◌-◌, length}
use lib.ListN.{take}
use Rattle.sponge.specs.Sponge.{rate}
use Rattle.shake.specs.Pieces.{given, after}
use Rattle.shake.specs.Held.{held}
use Rattle.shake.proofs.state.Shake.squeeze.Given as goal

abbrev pub invariant-loop-i : goal.invariant-loop-i
invariant-loop-i l = record {
  within : l.i ≤ length l.out;
  inside : l.at < rate;
  bytes : take l.i l.out ≡ given (held l.fn.self) l.i;
  state : (l.lanes, l.at) ≡ after (held l.fn.self) l.i;
}

abbrev pub decreases-loop-i : goal.decreases-loop-i
decreases-loop-i l = length l.out - l.i
