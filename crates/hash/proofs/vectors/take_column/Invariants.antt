-- `hash::vectors::take_column` meets its contract. The lanes passed have their cell.
-- Assumes nothing.
use mathlib.Core.Path.{◌≡◌}
use Prim.Native.Nat.{ℕ, ◌+◌, ◌*◌, ◌<◌}
use Rattle.strings.specs.Sums.{byte_at}
use Rattle.hash.proofs.vectors.take_column.Given as goal

abbrev pub invariant-loop-e : goal.invariant-loop-e
invariant-loop-e l = let column = l.column in let e = l.e in ((q : ℕ) → q < e → byte_at column q ≡ byte_at l.out (q * l.t + l.rho))
