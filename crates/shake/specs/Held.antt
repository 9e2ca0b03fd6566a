-- What a state of SHAKE256 holds, as the definitions of `Pieces` take it.
--   held s == its lanes and the place of the next byte in a block
-- Assumes nothing.
use Rattle.std.specs.Prelude.{◌%◌}
use Rattle.sponge.specs.Sponge.{rate}
use Rattle.shake.specs.declared.state.Shake.{Shake}
use Rattle.shake.specs.Pieces.{Held}

abbrev pub held : Shake → Held
held s = (s.lanes, s.absorbed % rate)
