-- `hash::vectors::put_column` meets its contract. The rows passed have their cell, and no other cell is written.
-- Assumes nothing.
use mathlib.Core.Path.{◌≡◌}
use Prim.Native.Nat.{ℕ, ◌+◌, ◌*◌, ◌<◌}
use Rattle.strings.specs.Sums.{byte_at}
use Rattle.hash.proofs.vectors.put_column.Given as goal

abbrev pub invariant-loop-e : goal.invariant-loop-e
invariant-loop-e l = let out = l.out in let e = l.e in ((q : ℕ) → q < e → byte_at out (q * l.t + l.rho) ≡ byte_at l.column q)
    × ((q r : ℕ) → q < l.tau → r < l.t → (r ≡ l.rho → ⊥) → byte_at out (q * l.t + r) ≡ byte_at l.initial.out (q * l.t + r))
