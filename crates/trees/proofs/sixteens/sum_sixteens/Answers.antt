-- `trees::sixteens::sum_sixteens` meets its contract. The invariant: the bytes before `at` are summed.
-- Assumes nothing.
use Rattle.std.proofs.Common.{◌≡◌, ℕ, ◌+◌, ◌-◌, ◌≤◌, List, arith, subst}
use Rattle.trees.specs.Trees.{TreeSummed}
use Rattle.trees.proofs.sixteens.sum_sixteens.Goals as goal
use Rattle.trees.proofs.sixteens.sum_sixteens.Goals.{else-loop-at-test, then-loop-at-test+else-last-at-gt16}

pub loop-at-preserved : goal.loop-at-preserved
loop-at-preserved c = let l = c.loop-at in c.sum_sixteen.ensures l.at (omega arith) l.invariant

pub returns : goal.returns
returns c =
    let a = c.args in
    let l = c.loop-at in
    let done = c.loop-at-test in
    let more = c.sum_sixteen-2 in
    let Summed : List ℕ → List ℕ → ℕ → Type 0 = TreeSummed a.tree.now a.w a.delta a.count a.r in
    let all : (n : ℕ) × (a.w - 16 ≤ n) × Summed done.u done.planes n =
    elim done.branch [
      | else-loop-at-test k ↦ rw (k.u-is, k.planes-is) (l.at, omega arith, l.invariant)
      | then-loop-at-test+else-last-at-gt16 k ↦ rw (k.u-is, k.planes-is) (l.at + 16, omega arith, k.sum_sixteen.ensures l.at (omega arith) l.invariant)
    ] in
    let end : a.w - 16 + 16 ≡ a.w = omega arith in
    subst (Summed more.new.u more.new.planes) end (more.ensures all.0 all.1 all.2)
