-- `forms_choices::picks::choose_both` meets its contract. The invariant: the fives below g of both sixteens are chosen.
-- Assumes nothing.
use Prim.Native.Nat.{ℕ, ◌+◌, ◌*◌, ◌<◌}
use mathlib.Core.Path.{◌≡◌}
use Rattle.strings.specs.Sums.{byte_at}
use Rattle.forms_choices.specs.Entries.{choice, in_rows}
use Rattle.forms_choices.proofs.picks.choose_both.Given as goal

abbrev pub invariant-loop-g : goal.invariant-loop-g
invariant-loop-g l = let plane = l.plane in ((k : ℕ) → k < l.g → (byte_at plane k ≡ choice (in_rows l.rows) l.p (0 * 16 + k)) × (byte_at plane (16 + k) ≡ choice (in_rows l.rows) l.p (1 * 16 + k)))
