-- `hash::vectors::hash_block` meets its contract. The invariant: the rows below rho have their block, and the others
-- are as they were.
-- Assumes nothing.
use mathlib.Core.Path.{◌≡◌}
use Prim.Native.Nat.{ℕ, ◌+◌, ◌*◌, ◌≤◌, ◌<◌}
use Rattle.strings.specs.Sums.{byte_at}
use Rattle.hash.specs.Hashed.{Column}
use Rattle.hash.proofs.vectors.hash_block.Given as goal

abbrev pub invariant-loop-rho : goal.invariant-loop-rho
invariant-loop-rho l = let out = l.out in let rho = l.rho in ((r : ℕ) → r < rho → Column l.matrix l.table l.b (l.b.from + l.b.len) r out)
    × ((e r : ℕ) → e < l.b.tau → rho ≤ r → r < l.b.t → byte_at out (e * l.b.t + r) ≡ byte_at l.initial.out (e * l.b.t + r))
