-- `verifier_consistency::fill_masks` meets its contract. Each element is changed once (`Elementwise`).
-- Assumes nothing.
use Prim.Native.Nat.{ℕ, ◌*◌}
use mathlib.Core.Path.{◌≡◌}
use mathlib.Core.List.{List}
use Rattle.protocol.specs.Strings.{bit}
use Rattle.strings.proofs.Elementwise.{changed}
use Rattle.verifier_consistency.proofs.fill_masks.Given as goal

abbrev pub change : List ℕ → ℕ → ℕ → ℕ
change u k x = bit u k * 255

abbrev pub invariant-loop-i : goal.invariant-loop-i
invariant-loop-i l = l.masks ≡ changed (change l.u) l.initial.masks l.i
