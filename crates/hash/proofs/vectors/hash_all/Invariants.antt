-- `hash::vectors::hash_all` meets its contract. The invariant: where a block was hashed, the output is the hash by the
-- bytes of the blocks before g.
-- Assumes nothing.
use Rattle.std.proofs.Common.{ℕ, ◌≡◌, ◌+◌, ◌*◌, ◌<◌, min}
use Rattle.strings.specs.Sums.{byte_at}
use Rattle.hash.specs.Hashed.{block, front_lane}
use Rattle.hash.proofs.vectors.hash_all.Given as goal

abbrev pub invariant-loop-g : goal.invariant-loop-g
invariant-loop-g l =
    0 < l.g → (r : ℕ) → r < l.s.t → (e : ℕ) → e < l.s.tau → byte_at l.out (e * l.s.t + r) ≡ front_lane l.matrix l.width l.k l.table (min (l.g * block) l.width) r e
