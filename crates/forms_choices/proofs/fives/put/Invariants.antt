-- `forms_choices::fives::put` meets its contract. Each word is written once (`Elementwise`).
-- Assumes nothing.
use Rattle.std.proofs.Common.{◌≡◌, ℕ, ◌+◌, ◌*◌, List}
use Rattle.strings.proofs.Elementwise.{changed}
use Rattle.forms_choices.specs.Entries.{fives_word}
use Rattle.forms_choices.proofs.fives.put.Given as goal

abbrev pub word : List ℕ → ℕ → ℕ → ℕ → ℕ
word picks at k x = fives_word picks (at + k * 10)

abbrev pub invariant-loop-k : goal.invariant-loop-k
invariant-loop-k l = l.row ≡ changed (word l.picks l.at) l.initial.row l.k
