-- `forms_columns::add_weighted` meets its contract. Each element is changed once (`Elementwise`); a mask is a product
-- with a bit.
-- Assumes nothing.
use Prim.Native.Nat.{ℕ, ◌*◌}
use mathlib.Core.List.{List}
use mathlib.Core.Path.{◌≡◌}
use lib.Bits.{bit_xor}
use Rattle.strings.specs.Sums.{byte_at, bit_of}
use Rattle.strings.proofs.Elementwise.{changed}
use Rattle.forms_columns.proofs.add_weighted.Given as goal

abbrev pub change : List ℕ → ℕ → ℕ → ℕ → ℕ → ℕ
change row z weight k x = bit_xor x (bit_of (byte_at row k) z * weight)

abbrev pub invariant-loop-e : goal.invariant-loop-e
invariant-loop-e l = l.u ≡ changed (change l.row l.z l.weight) l.initial.u l.e
