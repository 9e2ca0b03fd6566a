-- `forms::batch::put_table` meets its contract. The invariant: the first i chunks of the table are there, and those
-- before it are as they were.
-- Assumes nothing.
use Prim.Native.Nat.{ℕ, ◌+◌, ◌*◌, ◌<◌}
use mathlib.Core.Path.{◌≡◌}
use Rattle.strings.specs.Sums.{byte_at}
use Rattle.chunks.specs.Chunks.{chunk, cell_at}
use Rattle.forms.proofs.batch.put_table.Given as goal

abbrev pub invariant-loop-i : goal.invariant-loop-i
invariant-loop-i l = let lines = l.lines in let i = l.i in ((q f : ℕ) → q < i → f < l.len → cell_at lines (l.g * l.m + q) f ≡ byte_at l.b (q * l.width + l.g * chunk + f))
    × ((r f : ℕ) → r < l.g * l.m → f < chunk → cell_at lines r f ≡ cell_at l.initial.lines r f)
