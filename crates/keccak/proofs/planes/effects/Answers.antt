-- `keccak::planes::effects` meets its contract, by computing. Assumes nothing.
use Rattle.sponge.specs.Lanes.{rotated, lane, listed}
use Rattle.sponge.specs.Keccak.{column, effects}
use Rattle.keccak.proofs.planes.effects.Goals as goal

pub returns : goal.returns
unfolding effects listed column rotated lane
returns c = rw (c.rotate_left.ensures, c.rotate_left-2.ensures, c.rotate_left-3.ensures, c.rotate_left-4.ensures, c.rotate_left-5.ensures)
