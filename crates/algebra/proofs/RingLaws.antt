-- The laws of a ring of characteristic 2 that follow from its record, and the set `ring` by which `simp` brings an
-- expression to a normal form.
-- Assumes nothing.
use mathlib.Core.Path.{◌≡◌, sym, ap, ◌∙◌}
use Rattle.algebra.specs.Ring.{Ring}

module _ (R : Ring) where
  open R use {F, 𝟘, 𝟙, add as ◌⊕◌, mul as ◌⊗◌}

  infixl 65 ◌⊕◌
  infixl 70 ◌⊗◌
  pub zero-add : (x : F) → 𝟘 ⊕ x ≡ x
  zero-add x = R.add_comm 𝟘 x ∙ R.add-zero x

  pub add_left_comm : (x y z : F) → x ⊕ (y ⊕ z) ≡ y ⊕ (x ⊕ z)
  add_left_comm x y z = sym (R.add_assoc x y z) ∙ ap (λ w. w ⊕ z) (R.add_comm x y) ∙ R.add_assoc y x z

  pub add_self_left : (x y : F) → x ⊕ (x ⊕ y) ≡ y
  add_self_left x y = sym (R.add_assoc x x y) ∙ ap (λ w. w ⊕ y) (R.add_self x) ∙ zero-add y

  pub one-mul : (x : F) → 𝟙 ⊗ x ≡ x
  one-mul x = R.mul_comm 𝟙 x ∙ R.mul-one x

  pub mul-zero : (x : F) → x ⊗ 𝟘 ≡ 𝟘
  mul-zero x = ap (λ w. x ⊗ w) (sym (R.add_self 𝟘)) ∙ R.mul-add x 𝟘 𝟘 ∙ R.add_self (x ⊗ 𝟘)

  pub zero-mul : (x : F) → 𝟘 ⊗ x ≡ 𝟘
  zero-mul x = R.mul_comm 𝟘 x ∙ mul-zero x

  pub add-mul : (x y z : F) → (x ⊕ y) ⊗ z ≡ x ⊗ z ⊕ y ⊗ z
  add-mul x y z = simp (R.mul_comm, R.mul-add)

  pub mul_left_comm : (x y z : F) → x ⊗ (y ⊗ z) ≡ y ⊗ (x ⊗ z)
  mul_left_comm x y z = sym (R.mul_assoc x y z) ∙ ap (λ w. w ⊗ z) (R.mul_comm x y) ∙ R.mul_assoc y x z

  -- the record's laws once more, as lemmas that a set can name
  pub add_assoc : (x y z : F) → x ⊕ y ⊕ z ≡ x ⊕ (y ⊕ z)
  add_assoc = R.add_assoc

  pub add_comm : (x y : F) → x ⊕ y ≡ y ⊕ x
  add_comm = R.add_comm

  pub add-zero : (x : F) → x ⊕ 𝟘 ≡ x
  add-zero = R.add-zero

  pub add_self : (x : F) → x ⊕ x ≡ 𝟘
  add_self = R.add_self

  pub mul_assoc : (x y z : F) → x ⊗ y ⊗ z ≡ x ⊗ (y ⊗ z)
  mul_assoc = R.mul_assoc

  pub mul_comm : (x y : F) → x ⊗ y ≡ y ⊗ x
  mul_comm = R.mul_comm

  pub mul-one : (x : F) → x ⊗ 𝟙 ≡ x
  mul-one = R.mul-one

  pub mul-add : (x y z : F) → x ⊗ (y ⊕ z) ≡ x ⊗ y ⊕ x ⊗ z
  mul-add = R.mul-add

pub ruleset ring = (add_assoc, add_comm, add_left_comm, add-zero, zero-add, add_self, add_self_left, mul_assoc, mul_comm, mul_left_comm, mul-one, one-mul, mul-zero, zero-mul, mul-add, add-mul)
