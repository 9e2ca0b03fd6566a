-- `equations::equation_errors` meets its contract. Each element is changed once (`Elementwise`), to the error of its
-- equation.
-- Assumes nothing.
use Prim.Native.Nat.{ℕ}
use mathlib.Core.Path.{◌≡◌}
use mathlib.Core.List.{List}
use Rattle.strings.proofs.Elementwise.{changed}
use Rattle.equations.specs.Equations.{key_error}
use Rattle.equations.proofs.equation_errors.Given as goal

abbrev pub change : List ℕ → List ℕ → List ℕ → List ℕ → ℕ → ℕ → ℕ → ℕ
change a b y x n k e = key_error n a b y x k

abbrev pub invariant-loop-i : goal.invariant-loop-i
invariant-loop-i l = l.errors ≡ changed (change l.a l.b l.y l.x l.n) l.initial.errors l.i
