-- A finite field of characteristic 2 with at least four elements.
--   R == its ring;  inv x == the inverse of x, if x is not zero;  eqb x y == whether x and y are equal, as a Bool
--   size == the number of elements;  elements == a list of them, each exactly once
--   four≤size == over two elements every element is a root of X² + X, which is not zero: proofs/Two
-- Assumes nothing.
use Rattle.std.specs.Prelude.{◌≡◌, ◌≢◌, Bool, true, List, ℕ, ◌≤◌, length}
use Rattle.algebra.specs.Ring.{Ring}
use Rattle.algebra.specs.Count.{count}

pub record Field : Type 1 where
  pub R : Ring
  pub inv : R.F → R.F
  pub mul-inv : (x : R.F) → x ≢ R.𝟘 → R.mul x (inv x) ≡ R.𝟙
  pub eqb : R.F → R.F → Bool
  pub eqb_refl : (x : R.F) → eqb x x ≡ true
  pub eqb_sound : (x y : R.F) → eqb x y ≡ true → x ≡ y
  pub size : ℕ
  pub four≤size : 4 ≤ size
  pub elements : List R.F
  pub elements-length : length elements ≡ size
  pub elements_once : (x : R.F) → count (eqb x) elements ≡ 1
