-- `leaf_sums::sum_leaves` meets its contract.
-- Assumes nothing.
use mathlib.Core.Path.{refl}
use mathlib.Core.Logic.{inl, inr}
use Rattle.leaf_sums.proofs.sum_leaves.Goals as goal

pub load_trees-requires : goal.load_trees-requires
load_trees-requires c = c.fits.ensures.trees_ready c.if-fits.true

pub returns-then-fits : goal.returns-then-fits
returns-then-fits c =
    let sums = c.load_trees in
    inl (refl, c.fits.ensures.trees_ready c.if-fits.true, sums.ensures.sums_are, sums.ensures.table_is)

pub returns-else-fits : goal.returns-else-fits
returns-else-fits c = inr (refl, c.fits.ensures.fact c.if-fits.false, refl, refl)
