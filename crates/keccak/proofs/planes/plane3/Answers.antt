-- `keccak::planes::plane3` meets its contract, by computing. Assumes nothing.
use mathlib.Core.Path.{sym}
use Rattle.sponge.specs.Lanes.{rotated, lane, state_of}
use Rattle.sponge.specs.Tables.{offset, offsets}
use Rattle.sponge.specs.Keccak.{with_effects, ρ, π}
use Rattle.keccak.specs.Planes.{moved, plane₃}
use Rattle.keccak.proofs.FlagLaws.{other_is}
use Rattle.keccak.proofs.planes.plane3.Goals as goal

pub returns : goal.returns
unfolding plane₃ moved π ρ with_effects rotated lane state_of offset offsets
returns c = rw (sym (other_is c.rotate_left-b18.result c.rotate_left-b18.type_inv), c.rotate_left-b15.ensures, c.rotate_left-b16.ensures, c.rotate_left-b17.ensures, c.rotate_left-b18.ensures, c.rotate_left-b19.ensures)
