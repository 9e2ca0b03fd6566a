-- `trees::sixteens::sum_sixteens` meets its contract. The invariant: the bytes before `at` are summed.
-- Assumes nothing.
use Rattle.std.proofs.Common.{◌-◌}
use Rattle.trees.specs.Trees.{TreeSummed}
use Rattle.trees.proofs.sixteens.sum_sixteens.Given as goal

abbrev pub invariant-loop-at : goal.invariant-loop-at
invariant-loop-at l = TreeSummed l.tree l.w l.delta l.count l.r l.u l.planes l.at

abbrev pub decreases-loop-at : goal.decreases-loop-at
decreases-loop-at l = l.w - l.at
