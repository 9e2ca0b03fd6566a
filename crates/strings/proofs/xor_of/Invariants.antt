-- `strings::xor_of` meets its contract. Each element is changed once (`Elementwise`).
-- Assumes nothing.
use mathlib.Core.Path.{◌≡◌}
use lib.Bits.{bit_xor}
use Rattle.strings.specs.Sums.{byte_at}
use Rattle.strings.proofs.Elementwise.{changed}
use Rattle.strings.proofs.xor_of.Given as goal

abbrev pub invariant-loop-i : goal.invariant-loop-i
invariant-loop-i l = l.dst ≡ changed (λ k x. bit_xor (byte_at l.a k) (byte_at l.b k)) l.initial.dst l.i
