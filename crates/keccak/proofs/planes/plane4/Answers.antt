-- `keccak::planes::plane4` meets its contract, by computing. Assumes nothing.
use mathlib.Core.Path.{sym}
use Rattle.sponge.specs.Lanes.{rotated, lane, state_of}
use Rattle.sponge.specs.Tables.{offset, offsets}
use Rattle.sponge.specs.Keccak.{with_effects, ρ, π}
use Rattle.keccak.specs.Planes.{moved, plane₄}
use Rattle.keccak.proofs.FlagLaws.{other_is}
use Rattle.keccak.proofs.planes.plane4.Goals as goal

pub returns : goal.returns
unfolding plane₄ moved π ρ with_effects rotated lane state_of offset offsets
returns c = rw (sym (other_is c.rotate_left-b21.result c.rotate_left-b21.type_inv), c.rotate_left-b20.ensures, c.rotate_left-b21.ensures, c.rotate_left-b22.ensures, c.rotate_left-b23.ensures, c.rotate_left-b24.ensures)
