-- `keccak::planes::plane1` meets its contract, by computing. Assumes nothing.
use mathlib.Core.Path.{sym}
use Rattle.sponge.specs.Lanes.{rotated, lane, state_of}
use Rattle.sponge.specs.Tables.{offset, offsets}
use Rattle.sponge.specs.Keccak.{with_effects, ρ, π}
use Rattle.keccak.specs.Planes.{moved, plane₁}
use Rattle.keccak.proofs.FlagLaws.{other_is}
use Rattle.keccak.proofs.planes.plane1.Goals as goal

pub returns : goal.returns
unfolding plane₁ moved π ρ with_effects rotated lane state_of offset offsets
returns c = rw (sym (other_is c.rotate_left-b9.result c.rotate_left-b9.type_inv), c.rotate_left-b5.ensures, c.rotate_left-b6.ensures, c.rotate_left-b7.ensures, c.rotate_left-b8.ensures, c.rotate_left-b9.ensures)
