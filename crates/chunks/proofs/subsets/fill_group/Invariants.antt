-- `chunks::subsets::fill_group` meets its contract. The invariant: the sums of the first s rows are made, 2^s in
-- number.
-- Assumes nothing.
use Prim.Native.Nat.{ℕ, ◌+◌, ◌*◌, ◌^◌, ◌<◌}
use mathlib.Core.Path.{◌≡◌}
use Rattle.strings.specs.Sums.{byte_at}
use Rattle.chunks.specs.Subsets.{chosen_byte}
use Rattle.chunks.proofs.subsets.fill_group.Given as goal

abbrev pub invariant-loop-s : goal.invariant-loop-s
invariant-loop-s l = let sums = l.sums in let count = l.count in (count ≡ 2 ^ l.s) × ((v f : ℕ) → v < count → f < l.w → byte_at sums ((l.g * l.entries + v) * l.w + f) ≡ chosen_byte l.table l.w l.size l.g v f)
    × ((q f : ℕ) → q < l.g * l.entries → f < l.w → byte_at sums (q * l.w + f) ≡ byte_at l.initial.sums (q * l.w + f))
