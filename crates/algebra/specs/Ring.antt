-- A commutative ring of characteristic 2.
--   F == its elements;  𝟘, 𝟙 == zero and one;  add, mul == sum and product
--   add-self == characteristic 2: every element is its own negative, so that no subtraction is needed
-- Assumes nothing.
use Rattle.std.specs.Prelude.{◌≡◌}

pub record Ring : Type 1 where
  pub F : Type 0
  pub 𝟘 : F
  pub 𝟙 : F
  pub add : F → F → F
  pub mul : F → F → F
  pub add_assoc : (x y z : F) → add (add x y) z ≡ add x (add y z)
  pub add_comm : (x y : F) → add x y ≡ add y x
  pub add-zero : (x : F) → add x 𝟘 ≡ x
  pub add_self : (x : F) → add x x ≡ 𝟘
  pub mul_assoc : (x y z : F) → mul (mul x y) z ≡ mul x (mul y z)
  pub mul_comm : (x y : F) → mul x y ≡ mul y x
  pub mul-one : (x : F) → mul x 𝟙 ≡ x
  pub mul-add : (x y z : F) → mul x (add y z) ≡ add (mul x y) (mul x z)
