-- `chunks::turns::merge` meets its contract. The invariant: the first 2j bytes are merged.
-- Assumes nothing.
use Rattle.std.proofs.Common.{◌≡◌, ℕ, ◌+◌, ◌*◌, ◌/◌, ◌%◌, ◌<◌}
use Rattle.strings.specs.Sums.{byte_at}
use Rattle.chunks.proofs.turns.merge.Given as goal

abbrev pub invariant-loop-j : goal.invariant-loop-j
invariant-loop-j l = (i : ℕ) → i < 2 * l.j → byte_at l.out i ≡ byte_at l.rows (i % 2 * 64 + i / 2)
