-- `forms_sums::sums::look_up` meets its contract. The invariant: the entries that the words below k choose are added.
-- Assumes nothing.
use Rattle.std.proofs.Common.{ℕ, ◌≡◌, ◌*◌, ◌<◌}
use Rattle.strings.specs.Sums.{byte_at}
use Rattle.chunks.specs.Chunks.{chunk}
use Rattle.forms_choices.specs.Entries.{looked_up}
use Rattle.forms_sums.proofs.sums.look_up.Given as goal

abbrev pub invariant-loop-k : goal.invariant-loop-k
invariant-loop-k l = (f : ℕ) → f < chunk → byte_at l.sum f ≡ looked_up l.sums l.words l.r (l.k * 10) f
