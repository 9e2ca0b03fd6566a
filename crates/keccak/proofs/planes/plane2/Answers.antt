-- `keccak::planes::plane2` meets its contract, by computing. Assumes nothing.
use mathlib.Core.Path.{sym}
use Rattle.sponge.specs.Lanes.{rotated, lane, state_of}
use Rattle.sponge.specs.Tables.{offset, offsets}
use Rattle.sponge.specs.Keccak.{with_effects, ρ, π}
use Rattle.keccak.specs.Planes.{moved, plane₂}
use Rattle.keccak.proofs.FlagLaws.{other_is}
use Rattle.keccak.proofs.planes.plane2.Goals as goal

pub returns : goal.returns
unfolding plane₂ moved π ρ with_effects rotated lane state_of offset offsets
returns c = rw (sym (other_is c.rotate_left-b13.result c.rotate_left-b13.type_inv), c.rotate_left-b10.ensures, c.rotate_left-b11.ensures, c.rotate_left-b12.ensures, c.rotate_left-b13.ensures, c.rotate_left-b14.ensures)
