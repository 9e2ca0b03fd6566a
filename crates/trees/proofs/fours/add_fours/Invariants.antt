-- `trees::fours::add_fours` meets its contract. The invariant: where `Running` held of the leaves below `from`, it
-- holds of those of the k fours passed too.
-- Assumes nothing.
use Rattle.std.proofs.Common.{ℕ, ◌+◌, ◌*◌}
use Rattle.trees.specs.Partial.{RunningLow, held_plane, Placed}
use Rattle.trees.proofs.fours.add_fours.Given as goal

abbrev pub invariant-loop-k : goal.invariant-loop-k
invariant-loop-k l =
    (f : ℕ → ℕ → ℕ) → Placed f l.run.from l.run.to l.run.skip l.tree l.w l.run.at
    → RunningLow f 8 (held_plane l.initial.held 8) l.initial.sum l.initial.first l.initial.second l.run.from → RunningLow f 8 (held_plane l.held 8) l.sum l.first l.second (l.run.from + l.k * 4)
