-- `forms_sums::sums::add_first` meets its contract. Each element of a chunk is changed once (`Elementwise`).
-- Assumes nothing.
use Rattle.std.proofs.Common.{◌≡◌}
use lib.Bits.{bit_xor}
use Rattle.strings.specs.Sums.{byte_at}
use Rattle.strings.proofs.Elementwise.{changed}
use Rattle.forms_sums.proofs.sums.add_first.Given as goal

abbrev pub invariant-loop-f : goal.invariant-loop-f
invariant-loop-f l = l.dst ≡ changed (λ k x. bit_xor x (byte_at l.sums k)) l.initial.dst l.f
