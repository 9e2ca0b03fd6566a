-- `verifier_consistency::difference` meets its contract. The invariant: what was found is 0 exactly where the entries
-- passed are as they must be.
-- Assumes nothing.
use Prim.Native.Nat.{ℕ}
use mathlib.Core.Path.{◌≡◌}
use mathlib.Core.List.{List}
use lib.Dec.{eqb}
use Rattle.verifier_consistency.specs.Consistency.{BitMasks, row_consistent}
use Rattle.verifier_consistency.proofs.difference.Given as goal

abbrev pub invariant-loop-rho : goal.invariant-loop-rho
invariant-loop-rho l = (u : List ℕ) → BitMasks u l.masks → eqb l.found 0 ≡ row_consistent l.hashed l.v u l.delta l.rho
