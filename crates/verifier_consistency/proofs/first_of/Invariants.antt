-- `verifier_consistency::first_of` meets its contract. The invariant: the repetitions passed are consistent.
-- Assumes nothing.
use Prim.Native.Nat.{ℕ, ◌<◌}
use mathlib.Core.Path.{◌≡◌}
use mathlib.Core.Bool.{true}
use mathlib.Core.List.{List}
use Rattle.protocol.specs.Lists.{block_at}
use Rattle.strings.specs.Sums.{byte_at}
use Rattle.verifier_consistency.specs.Consistency.{BitMasks, row_consistent}
use Rattle.verifier_consistency.proofs.first_of.Given as goal

abbrev pub invariant-loop-e : goal.invariant-loop-e
invariant-loop-e l = (u : List ℕ) → BitMasks u l.masks → (k : ℕ) → k < l.e → row_consistent (block_at l.hashed l.t k) (block_at l.v l.t k) u (byte_at l.delta k) l.t ≡ true
