-- `keccak::planes::plane0` meets its contract, by computing. Assumes nothing.
use mathlib.Core.Path.{sym}
use Rattle.sponge.specs.Lanes.{rotated, lane, state_of}
use Rattle.sponge.specs.Tables.{offset, offsets}
use Rattle.sponge.specs.Keccak.{with_effects, ρ, π}
use Rattle.keccak.specs.Planes.{moved, plane₀}
use Rattle.keccak.proofs.FlagLaws.{other_is}
use Rattle.keccak.proofs.planes.plane0.Goals as goal

pub returns : goal.returns
unfolding plane₀ moved π ρ with_effects rotated lane state_of offset offsets
returns c = rw (sym (other_is c.rotate_left-b2.result c.rotate_left-b2.type_inv), c.rotate_left-b1.ensures, c.rotate_left-b2.ensures, c.rotate_left-b3.ensures, c.rotate_left-b4.ensures)
