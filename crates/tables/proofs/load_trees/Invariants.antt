-- `tables::load_trees` meets its contract. The invariant: the rows and lanes of the repetitions below e are done.
-- Assumes nothing.
use Prim.Native.Nat.{◌^◌}
use Rattle.tables.specs.Sums.{SumsAre, TableIs}
use Rattle.tables.proofs.load_trees.Given as goal

abbrev pub invariant-loop-e : goal.invariant-loop-e
invariant-loop-e l =
    SumsAre l.sums l.leaves l.e l.w (2 ^ l.r) × TableIs l.table l.leaves l.e l.w (2 ^ l.r)
