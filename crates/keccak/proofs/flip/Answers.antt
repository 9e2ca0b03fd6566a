-- `keccak::flip` meets its contract, by computing. Assumes nothing.
use mathlib.Core.Path.{sym}
use lib.ListN.{get_or}
use Rattle.sponge.specs.Lanes.{lane, state_of}
use Rattle.keccak.specs.Flags.{flag, named, flips, outer}
use Rattle.keccak.proofs.FlagLaws.{other_is}
use Rattle.keccak.proofs.flip.Goals as goal

pub returns : goal.returns
unfolding flips flag named outer lane state_of
returns c =
    let a = c.args.a in
    rw (
      sym (other_is (get_or a 1 0) c.element_fits.fits),
      sym (other_is (get_or a 2 0) c.element_fits2.fits),
      sym (other_is (get_or a 8 0) c.element_fits3.fits),
      sym (other_is (get_or a 12 0) c.element_fits4.fits),
      sym (other_is (get_or a 17 0) c.element_fits5.fits),
      sym (other_is (get_or a 20 0) c.element_fits6.fits),
    )
