-- `lanes::add_mask_bits` meets its contract. Each element is changed once (`Elementwise`).
-- Assumes nothing.
use Prim.Native.Nat.{ℕ}
use mathlib.Core.List.{List}
use mathlib.Core.Path.{◌≡◌}
use lib.Bits.{bit_xor}
use Rattle.strings.proofs.Elementwise.{changed}
use Rattle.format.specs.declared.sizes.Sizes.{Sizes}
use Rattle.lanes.specs.Lanes.{mask_bits, first_mask}
use Rattle.lanes.proofs.add_mask_bits.Given as goal

abbrev pub change : List ℕ → Sizes → ℕ → ℕ → ℕ
change u s k x = bit_xor x (mask_bits s.degree u (first_mask s k))

abbrev pub invariant-loop-e : goal.invariant-loop-e
invariant-loop-e l = l.acc ≡ changed (change l.u l.s) l.initial.acc l.e
