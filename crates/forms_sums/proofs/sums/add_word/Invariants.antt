-- `forms_sums::sums::add_word` meets its contract. The invariant: the entries of the fives below j are added.
-- Assumes nothing.
use Rattle.std.proofs.Common.{ℕ, ◌≡◌, ◌<◌}
use lib.Bits.{bit_xor}
use Rattle.strings.specs.Sums.{byte_at}
use Rattle.chunks.specs.Chunks.{chunk}
use Rattle.forms_choices.specs.Entries.{word_byte}
use Rattle.forms_sums.proofs.sums.add_word.Given as goal

abbrev pub invariant-loop-j : goal.invariant-loop-j
invariant-loop-j g l = (f : ℕ) → f < chunk → byte_at l.sum f ≡ bit_xor (byte_at l.initial.sum f) (word_byte l.sums l.k l.j l.w f)
