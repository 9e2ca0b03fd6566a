-- Why a field here has at least four elements: over two, X² + X is not the zero polynomial and yet every element is a
-- root of it.
-- So "as many roots as elements" would not say that all coefficients are zero, and a factor of 2 would be both "2" and
-- "all".
-- Assumes nothing.
use mathlib.Core.Path.{◌≡◌, refl}
use mathlib.Core.Bool.{Bool, true, false, not, ◌&&◌, and_assoc, and_comm, and-true}
use mathlib.Core.List.{List, [], ◌∷◌}
use lib.ListN.{length}
use Rattle.algebra.specs.Ring.{Ring}
use Rattle.algebra.specs.Count.{count}
use Rattle.algebra.specs.Bits.{plus}
use Rattle.algebra.proofs.BitsLaws.{plus_assoc, plus_comm, plus_self}

pub and-plus : (x y z : Bool) → (x && plus y z) ≡ plus (x && y) (x && z)
and-plus true y z = refl
and-plus false y z = refl

abbrev pub two : Ring
two = record {
  F = Bool;
  𝟘 = false;
  𝟙 = true;
  add = plus;
  mul = ◌&&◌;
  add_assoc = plus_assoc;
  add_comm = plus_comm;
  add-zero = λ x. plus_comm x false;
  add_self = plus_self;
  mul_assoc = and_assoc;
  mul_comm = and_comm;
  mul-one = and-true;
  mul-add = and-plus;
}

abbrev pub elements : List Bool
elements = false ∷ true ∷ []

-- the test is 0 + 1·x + 1·x² = 0, as quad_at has it
pub every_element_a_root : count (λ x. not (two.add (two.add false (two.mul true x)) (two.mul true (two.mul x x)))) elements ≡ length elements
every_element_a_root = refl
