-- `trees::sixteens::hold_leaves` meets its contract. The invariant: where `Running` held of the leaves below `from`, it
-- holds of those below j.
-- Assumes nothing.
use Rattle.trees.specs.Partial.{RunningLeaves}
use Rattle.trees.proofs.sixteens.hold_leaves.Given as goal

abbrev pub invariant-loop-j : goal.invariant-loop-j
invariant-loop-j l = RunningLeaves l.tree l.w l.delta l.at 8 l.initial.sum l.initial.held l.from → RunningLeaves l.tree l.w l.delta l.at 8 l.sum l.held l.j
