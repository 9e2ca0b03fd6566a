-- What the errors of the equations say of question 11.
-- Assumes nothing.
use mathlib.Core.Path.{◌≡◌, sym}
use mathlib.Core.Bool.{true}
use mathlib.Core.List.{List}
use Prim.Native.Nat.{ℕ, ◌<◌}
use native.Mathlib.Omega.{arith}
use lib.ListN.{length}
use Rattle.std.specs.Prelude.{Option, Some, None, IfSome}
use Rattle.galois.specs.Degrees.{field_of}
use Rattle.protocol.specs.Strings.{spare_zero}
use Rattle.protocol.specs.Setting.{Setting, alphabet_of}
use Rattle.protocol.specs.Shape.{shape_of}
use Rattle.protocol.specs.Key.{section_a, section_b, section_y}
use Rattle.protocol.specs.Questions.{equation_holds, solves}
use Rattle.theorems.proofs.TestLaws.{all-at}
use Rattle.strings.specs.Sums.{byte_at}
use Rattle.equations.specs.Equations.{key_error, FirstIn}
use Rattle.equations.proofs.EquationsMeaning.{none-solves, first-named}
use Rattle.format.specs.First.{FirstOf}
use Rattle.format.proofs.FirstLaws.{none_found}

pub place_fits : (errors : List ℕ) (first : Option ℕ) → length errors < 65536 → FirstIn errors first → IfSome first (λ i. i < 65536)
place_fits errors (Some i) h f = omega (arith, h, f.0)
place_fits errors None h f = tt

module _ (g : Setting) (key x : List ℕ) (spare : spare_zero x (shape_of key).n ≡ true) (errors : List ℕ) (long : length errors ≡ (shape_of key).m)
    (are : (i : ℕ) → i < length errors → byte_at errors i ≡ key_error (shape_of key).n (section_a (alphabet_of g) (shape_of key) key) (section_b (alphabet_of g) (shape_of key) key) (section_y (alphabet_of g) (shape_of key) key) x i) where
  -- the first error that is not 0 is that of the first equation that fails
  pub first_fails : (first : Option ℕ) → FirstIn errors first → FirstOf (shape_of key).m (equation_holds (alphabet_of g) (shape_of key) key x) first
  unfolding solves
  first_fails None f = none_found _ _ (all-at _ _ (none-solves (field_of g.degree) (shape_of key) key x spare errors long are f))
  first_fails (Some i) f = (omega (arith, long, f.0), sym (first-named (field_of g.degree) (shape_of key) key x spare errors long are i f))
