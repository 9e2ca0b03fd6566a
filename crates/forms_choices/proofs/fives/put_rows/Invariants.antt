-- `forms_choices::fives::put_rows` meets its contract. The invariant: the rows of the bits below p are filled, and
-- those of earlier repetitions are as they were.
-- Assumes nothing.
use Prim.Native.Nat.{ℕ, ◌+◌, ◌*◌, ◌<◌}
use mathlib.Core.Path.{◌≡◌}
use Rattle.strings.specs.Sums.{byte_at}
use Rattle.forms_choices.specs.Entries.{fives_word}
use Rattle.forms_choices.proofs.fives.put_rows.Given as goal

abbrev pub invariant-loop-p : goal.invariant-loop-p
invariant-loop-p l = let words = l.words in ((q k : ℕ) → q < l.p → k < 4 → byte_at words ((l.e * 8 + q) * 4 + k) ≡ fives_word l.picks (q * 32 + k * 10))
    × ((q k : ℕ) → q < l.e * 8 → k < 4 → byte_at words (q * 4 + k) ≡ byte_at l.initial.words (q * 4 + k))
