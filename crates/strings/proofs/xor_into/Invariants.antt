-- `strings::xor_into` meets its contract. Each element is changed once (`Elementwise`).
-- Assumes nothing.
use mathlib.Core.Path.{◌≡◌}
use lib.Bits.{bit_xor}
use Rattle.strings.specs.Sums.{byte_at}
use Rattle.strings.proofs.Elementwise.{changed}
use Rattle.strings.proofs.xor_into.Given as goal

abbrev pub invariant-loop-i : goal.invariant-loop-i
invariant-loop-i l = l.dst ≡ changed (λ k x. bit_xor x (byte_at l.src k)) l.initial.dst l.i
