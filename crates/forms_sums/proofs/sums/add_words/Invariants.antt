-- `forms_sums::sums::add_words` meets its contract. The invariant: of both, the entries of the fives below j are added.
-- Assumes nothing.
use Rattle.std.proofs.Common.{ℕ, ◌≡◌, ◌<◌}
use lib.Bits.{bit_xor}
use Rattle.strings.specs.Sums.{byte_at}
use Rattle.chunks.specs.Chunks.{chunk}
use Rattle.forms_choices.specs.Entries.{word_byte}
use Rattle.forms_sums.proofs.sums.add_words.Given as goal

abbrev pub invariant-loop-j : goal.invariant-loop-j
invariant-loop-j g l =
    ((f : ℕ) → f < chunk → byte_at l.first f ≡ bit_xor (byte_at l.initial.first f) (word_byte l.sums l.k l.j l.w f))
    × ((f : ℕ) → f < chunk → byte_at l.second f ≡ bit_xor (byte_at l.initial.second f) (word_byte l.sums l.k l.j l.x f))
