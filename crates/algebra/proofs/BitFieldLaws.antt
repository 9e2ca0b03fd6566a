-- Tests at the basis prove the laws of the product modulo X^r + m, which is additive on both sides;
-- and what passes them is a coded field.
-- Assumes nothing.
use mathlib.Core.Path.{◌≡◌, refl, ap, ◌∙◌}
use mathlib.Core.Bool.{Bool, true, false, ◌||◌, false≢true}
use Prim.Native.Nat.{ℕ, ◌^◌, ◌≤◌}
use native.Mathlib.Omega.{arith}
use lib.Dec.{T, leb→le}
use lib.Pow.{pow_mono}
use Rattle.algebra.specs.Ring.{Ring}
use Rattle.algebra.specs.Field.{Field}
use Rattle.algebra.specs.Coded.{Coded}
use Rattle.algebra.specs.Bits.{Bits, zeros, unit, add, same, elem, byte, elements, on_basis}
use Rattle.algebra.specs.BitField.{mul, inverse, commutes, associates, has_one, inverts, Passes}
use Rattle.algebra.proofs.BitsLaws.{add_assoc, add_comm, add_self, add_zero_r, same_eq, same_refl, elements-length}
pub use Rattle.algebra.proofs.BitsLaws.{elements_once}
use Rattle.algebra.proofs.LinearLaws.{on_basis_lem, linear_ext, everywhere-at, mul_left, mul_right}
use Rattle.algebra.proofs.ByteLaws.{elem-byte, byte-elem, byte_lt, byte-add, elem_xor, elem-zero, elem-one}
use Rattle.algebra.proofs.TestLaws.{T_true}

module _ (r : ℕ) (m : Bits r) where
  pub mul_comm : T (commutes r m) → (a b : Bits r) → mul r m a b ≡ mul r m b a
  unfolding commutes
  mul_comm t a b =
      linear_ext r r (λ x. mul r m x b) (λ x. mul r m b x) (mul_left r m b) (mul_right r m b)
      (on_basis_lem r (λ x. on_basis r (λ y. same r (mul r m x y) (mul r m y x))) (λ x. mul r m x b ≡ mul r m b x)
      (λ x tx. linear_ext r r (λ y. mul r m x y) (λ y. mul r m y x) (mul_right r m x) (mul_left r m x)
      (on_basis_lem r (λ y. same r (mul r m x y) (mul r m y x)) (λ y. mul r m x y ≡ mul r m y x)
      (λ y. same_eq r (mul r m x y) (mul r m y x)) tx)
      b)
      t)
      a

  pub mul_assoc : T (associates r m) → (a b c : Bits r) → mul r m (mul r m a b) c ≡ mul r m a (mul r m b c)
  unfolding associates
  mul_assoc t a b c =
      linear_ext r r (λ x. mul r m (mul r m x b) c) (λ x. mul r m x (mul r m b c))
      (λ x y. ap (λ (z : Bits r). mul r m z c) (mul_left r m b x y) ∙ mul_left r m c (mul r m x b) (mul r m y b))
      (mul_left r m (mul r m b c))
      (on_basis_lem r (λ x. on_basis r (λ y. on_basis r (λ z. same r (mul r m (mul r m x y) z) (mul r m x (mul r m y z)))))
      (λ x. mul r m (mul r m x b) c ≡ mul r m x (mul r m b c))
      (λ x tx. linear_ext r r (λ y. mul r m (mul r m x y) c) (λ y. mul r m x (mul r m y c))
      (λ y z. ap (λ (w : Bits r). mul r m w c) (mul_right r m x y z) ∙ mul_left r m c (mul r m x y) (mul r m x z))
      (λ y z. ap (mul r m x) (mul_left r m c y z) ∙ mul_right r m x (mul r m y c) (mul r m z c))
      (on_basis_lem r (λ y. on_basis r (λ z. same r (mul r m (mul r m x y) z) (mul r m x (mul r m y z))))
      (λ y. mul r m (mul r m x y) c ≡ mul r m x (mul r m y c))
      (λ y ty. linear_ext r r (mul r m (mul r m x y)) (λ z. mul r m x (mul r m y z))
      (mul_right r m (mul r m x y))
      (λ z w. ap (mul r m x) (mul_right r m y z w) ∙ mul_right r m x (mul r m y z) (mul r m y w))
      (on_basis_lem r (λ z. same r (mul r m (mul r m x y) z) (mul r m x (mul r m y z)))
      (λ z. mul r m (mul r m x y) z ≡ mul r m x (mul r m y z))
      (λ z. same_eq r (mul r m (mul r m x y) z) (mul r m x (mul r m y z))) ty)
      c)
      tx)
      b)
      t)
      a

  pub mul-one : T (has_one r m) → (a : Bits r) → mul r m (unit r) a ≡ a
  unfolding has_one
  mul-one t a =
      linear_ext r r (mul r m (unit r)) (λ x. x) (mul_right r m (unit r)) (λ x y. refl)
      (on_basis_lem r (λ x. same r (mul r m (unit r) x) x) (λ x. mul r m (unit r) x ≡ x) (λ x. same_eq r (mul r m (unit r) x) x) t)
      a

  pub mul-inverse : T (inverts r m) → (a : Bits r) → (a ≡ zeros r → ⊥) → mul r m a (inverse r m a) ≡ unit r
  unfolding inverts
  mul-inverse t a h =
      go (same r a (zeros r)) (same r (mul r m a (inverse r m a)) (unit r)) (λ e. h (same_eq r a (zeros r) e))
      (same_eq r (mul r m a (inverse r m a)) (unit r))
      (everywhere-at r (λ x. same r x (zeros r) || same r (mul r m x (inverse r m x)) (unit r)) t a)
    where
      go : (p q : Bool) → (T p → ⊥) → (T q → mul r m a (inverse r m a) ≡ unit r) → T (p || q) → mul r m a (inverse r m a) ≡ unit r
      go true q n y u = absurd (n u)
      go false q n y u = y u

-- ---- the field

of_true : (b : Bool) → b ≡ true → T b
of_true true e = tt
of_true false e = absurd (false≢true e)

pub eqb_refl : (r : ℕ) (x : Bits r) → same r x x ≡ true
eqb_refl r x = T_true (same r x x) (same_refl r x)

pub eqb_sound : (r : ℕ) (x y : Bits r) → same r x y ≡ true → x ≡ y
eqb_sound r x y h = same_eq r x y (of_true (same r x y) h)

pub four≤size : (r : ℕ) → 2 ≤ r → 4 ≤ 2 ^ r
four≤size r h = pow_mono h

pub one-is : (r : ℕ) → 2 ≤ r → elem r 1 ≡ unit r
one-is r h = elem-one r (omega arith)

abbrev pub ring_of : (r : ℕ) (m : Bits r) → Passes r m → Ring
ring_of r m p = record {
  F = Bits r;
  𝟘 = zeros r;
  𝟙 = unit r;
  add = add r;
  mul = mul r m;
  add_assoc = add_assoc r;
  add_comm = add_comm r;
  add-zero = add_zero_r r;
  add_self = add_self r;
  mul_assoc = mul_assoc r m p.associates?;
  mul_comm = mul_comm r m p.commutes?;
  mul-one = λ x. mul_comm r m p.commutes? x (unit r) ∙ mul-one r m p.one? x;
  mul-add = mul_right r m;
}

abbrev pub field_of : (r : ℕ) (m : Bits r) → Passes r m → Field
field_of r m p = record {
  R = ring_of r m p;
  inv = inverse r m;
  mul-inv = mul-inverse r m p.inverts?;
  eqb = same r;
  eqb_refl = eqb_refl r;
  eqb_sound = eqb_sound r;
  size = 2 ^ r;
  four≤size = omega (arith, four≤size r (leb→le 2 r p.least?));
  elements = elements r;
  elements-length = elements-length r;
  elements_once = elements_once r;
}

abbrev pub coded : (r : ℕ) (m : Bits r) → Passes r m → Coded
coded r m p = record {
  base = field_of r m p;
  degree = r;
  elem = elem r;
  byte = byte r;
  size_is = refl;
  degree≤8 = leb→le r 8 p.most?;
  elem-byte = elem-byte r;
  byte-elem = byte-elem r;
  byte_lt = byte_lt r;
  elem-zero = elem-zero r;
  elem-one = one-is r (leb→le 2 r p.least?);
  byte-add = byte-add r;
  elem_xor = elem_xor r;
}
