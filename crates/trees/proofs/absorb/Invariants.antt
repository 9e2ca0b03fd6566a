-- `trees::absorb` meets its contract. The invariant: the planes below p are done, the others are as they were.
-- Assumes nothing.
use Prim.Native.Nat.{ℕ, ◌*◌}
use lib.ListN.{length}
use lib.Bits.{bit_xor}
use Rattle.strings.specs.Sums.{byte_at, bit_of}
use Rattle.trees.proofs.PlaneLaws.{Done, Left}
use Rattle.trees.proofs.absorb.Given as goal

abbrev pub invariant-loop-p : goal.invariant-loop-p
invariant-loop-p l = let planes = l.planes in let p = l.p in Done (λ (q b x : ℕ). bit_xor x (bit_of l.j q * byte_at l.row b)) l.initial.planes planes (length l.row) p
    × Left l.initial.planes planes (length l.row) p
