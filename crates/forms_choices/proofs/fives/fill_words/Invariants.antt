-- `forms_choices::fives::fill_words` meets its contract. The invariant: the rows of the repetitions below e are filled.
-- Assumes nothing.
use Prim.Native.Nat.{ℕ, ◌+◌, ◌*◌, ◌<◌}
use Rattle.strings.specs.Sums.{byte_at}
use Rattle.forms_choices.specs.Entries.{Chosen}
use Rattle.forms_choices.proofs.fives.fill_words.Given as goal

abbrev pub invariant-loop-e : goal.invariant-loop-e
invariant-loop-e l = (q : ℕ) → q < l.e * 8 → Chosen (λ r i. byte_at l.chi (r * l.stride + l.from + i)) l.m l.words q
