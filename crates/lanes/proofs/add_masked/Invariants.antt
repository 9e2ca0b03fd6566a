-- `lanes::add_masked` meets its contract. Each element is changed once (`Elementwise`); a mask of ones or zeros is a
-- product with a bit.
-- Assumes nothing.
use Prim.Native.Nat.{ℕ, ◌*◌}
use mathlib.Core.List.{List}
use mathlib.Core.Path.{◌≡◌}
use lib.Bits.{bit_xor}
use Rattle.strings.specs.Sums.{byte_at}
use Rattle.strings.proofs.Elementwise.{changed}
use Rattle.lanes.proofs.add_masked.Given as goal

abbrev pub change : ℕ → List ℕ → ℕ → ℕ → ℕ
change bit src k x = bit_xor x (bit * byte_at src k)

abbrev pub invariant-loop-e : goal.invariant-loop-e
invariant-loop-e l = l.acc ≡ changed (change l.bit l.src) l.initial.acc l.e
