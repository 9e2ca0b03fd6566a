-- `forms_columns::weights_of` meets its contract. Each element is changed once (`Elementwise`), to the power of α
-- that the weight is.
-- Assumes nothing.
use Prim.Native.Nat.{ℕ}
use mathlib.Core.Path.{◌≡◌}
use Rattle.strings.proofs.Elementwise.{changed}
use Rattle.forms_columns.specs.Stacks.{alpha}
use Rattle.forms_columns.proofs.weights_of.Given as goal

abbrev pub change : ℕ → ℕ → ℕ → ℕ
change d s x = alpha d s

abbrev pub invariant-loop-s : goal.invariant-loop-s
invariant-loop-s l = (l.weights ≡ changed (change l.degree) l.initial.weights l.s) × (l.weight ≡ alpha l.degree l.s)
