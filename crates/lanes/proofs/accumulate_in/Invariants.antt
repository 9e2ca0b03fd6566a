-- `lanes::accumulate_in` meets its contract. Each element is changed once (`Elementwise`), by the product that
-- `multiply` ensures.
-- Assumes nothing.
use Prim.Native.Nat.{ℕ}
use mathlib.Core.List.{List}
use mathlib.Core.Path.{◌≡◌}
use lib.Bits.{bit_xor}
use Rattle.algebra.specs.Coded.{Coded, mul_byte}
use Rattle.strings.specs.Sums.{byte_at}
use Rattle.strings.proofs.Elementwise.{changed}
use Rattle.lanes.proofs.accumulate_in.Given as goal

abbrev pub change : Coded → List ℕ → List ℕ → ℕ → ℕ → ℕ
change C f t k x = bit_xor x (mul_byte C (byte_at f k) (byte_at t k))

abbrev pub invariant-loop-e : goal.invariant-loop-e
invariant-loop-e g l = l.acc ≡ changed (change g.F.Field.coded l.f l.t) l.initial.acc l.e
