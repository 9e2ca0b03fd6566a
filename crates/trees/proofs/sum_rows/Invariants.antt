-- `trees::sum_rows` meets its contract. The invariant: plane p is its sum of the j leaves passed, plus their whole sum
-- where bit p of j is 1.
-- Assumes nothing.
use Rattle.std.proofs.Common.{◌+◌, ◌*◌}
use Rattle.strings.specs.Sums.{byte_at}
use Rattle.trees.specs.Trees.{leaf_byte}
use Rattle.trees.specs.Partial.{Running}
use Rattle.trees.proofs.sum_rows.Given as goal

abbrev pub invariant-loop-j : goal.invariant-loop-j
invariant-loop-j l = Running (leaf_byte l.tree l.w l.delta) l.r l.w (byte_at l.u) (λ p b. byte_at l.planes (p * l.w + b)) l.j
