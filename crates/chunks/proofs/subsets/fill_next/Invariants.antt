-- `chunks::subsets::fill_next` meets its contract. The invariant: the entries below v are made, and what they are made
-- of is as it was.
-- Assumes nothing.
use Rattle.std.proofs.Common.{◌≡◌, ℕ, ◌+◌, ◌*◌, ◌<◌}
use lib.Bits.{bit_xor}
use Rattle.strings.specs.Sums.{byte_at}
use Rattle.chunks.proofs.subsets.fill_next.Given as goal

abbrev pub invariant-loop-v : goal.invariant-loop-v
invariant-loop-v l = ((i f : ℕ) → i < l.v → f < l.w → byte_at l.sums ((l.base + l.count + i) * l.w + f) ≡ bit_xor (byte_at l.initial.sums ((l.base + i) * l.w + f)) (byte_at l.row f))
    × ((q f : ℕ) → q < l.base + l.count → f < l.w → byte_at l.sums (q * l.w + f) ≡ byte_at l.initial.sums (q * l.w + f))
