-- `forms_choices::fives::word_at` meets its contract. The invariant: the word is what the last k numbers write.
-- Assumes nothing.
use Rattle.std.proofs.Common.{◌≡◌, ◌+◌}
use Rattle.strings.specs.Sums.{byte_at}
use Rattle.forms_choices.proofs.DigitLaws.{digits}
use Rattle.forms_choices.proofs.fives.word_at.Given as goal

abbrev pub invariant-loop-k : goal.invariant-loop-k
invariant-loop-k l = l.word ≡ digits 32 (λ k. byte_at l.picks (l.at + k)) 10 l.k
