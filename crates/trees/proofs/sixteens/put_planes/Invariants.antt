-- `trees::sixteens::put_planes` meets its contract. The invariant: sum is that of the rows 0, .., k, and of the
-- r planes those from 8 - k on are done.
-- Assumes nothing.
use Rattle.std.proofs.Common.{◌≡◌, ℕ, ◌+◌, ◌*◌, ◌-◌, ◌<◌}
use Rattle.strings.specs.Sums.{byte_at, xor_sum}
use Rattle.trees.proofs.SixteenLaws.{PlanesFrom}
use Rattle.trees.proofs.sixteens.put_planes.Given as goal

abbrev pub invariant-loop-k : goal.invariant-loop-k
invariant-loop-k l =
    ((b : ℕ) → b < 16 → byte_at l.sum b ≡ xor_sum (l.k + 1) (λ i. byte_at l.held (i * 16 + b)))
    × PlanesFrom (λ p b. xor_sum (8 + 1 - p) (λ i. byte_at l.held (i * 16 + b))) l.planes l.r l.w l.at l.k
    × ((p b : ℕ) → p < l.r → b < l.at → byte_at l.planes (p * l.w + b) ≡ byte_at l.initial.planes (p * l.w + b))
