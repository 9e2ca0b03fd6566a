-- `forms_choices::picks::choose` meets its contract. The invariant: the number is what the last z bits write.
-- Assumes nothing.
use Rattle.std.proofs.Common.{◌≡◌, ◌+◌, ◌*◌}
use Rattle.strings.specs.Sums.{byte_at, bit_of}
use Rattle.forms_choices.proofs.DigitLaws.{digits}
use Rattle.forms_choices.proofs.picks.choose.Given as goal

abbrev pub invariant-loop-z : goal.invariant-loop-z
invariant-loop-z l = l.number ≡ digits 2 (λ z. bit_of (byte_at l.rows (l.h * 128 + l.g + z * 16)) l.p) 5 l.z
