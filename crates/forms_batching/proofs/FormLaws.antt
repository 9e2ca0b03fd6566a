-- Laws of products of two and of three factors; a bit as an element; and a sum over rows of products, each under a bit.
-- Assumes nothing.
use mathlib.Core.Path.{◌≡◌, sym, ap, subst, ◌∙◌}
use Prim.Native.Nat.{ℕ, zero, suc, ◌*◌, ◌^◌, ◌<◌}
use native.Mathlib.Nat.{zero-mul, one-mul}
use native.Mathlib.Omega.{arith}
use lib.Bits.{bit_xor}
use Rattle.algebra.specs.Coded.{Coded, mul_byte}
use Rattle.algebra.proofs.RingLaws.{ring}
use Rattle.galois.specs.Degrees.{field_of, degree_of}
use Rattle.strings.specs.Sums.{xor_sum}
use Rattle.strings.proofs.SumLaws.{sum_same}
use Rattle.forms_columns.specs.Stacks.{byte_product}
use Rattle.forms_columns.proofs.ProductLaws.{product-sum, product-bits, product_comm, product-zero}

module _ (C : Coded) where
  open C use {base, elem, byte}
  open base use {R}
  open R use {F, 𝟙, add as ◌⊕◌, mul as ◌⊗◌}

  infixl 65 ◌⊕◌
  infixl 70 ◌⊗◌
  outer : (a b c : F) → a ⊗ (b ⊗ c) ≡ c ⊗ (b ⊗ a)
  outer a b c = simp ring

  coded-outer : (a b c : ℕ) → mul_byte C a (mul_byte C b c) ≡ mul_byte C c (mul_byte C b a)
  coded-outer a b c =
      ap (λ x. byte (elem a ⊗ x)) (C.elem-byte (elem b ⊗ elem c)) ∙ ap byte (outer (elem a) (elem b) (elem c)) ∙ ap (λ x. byte (elem c ⊗ x)) (sym (C.elem-byte (elem b ⊗ elem a)))

  coded-one : (a : ℕ) → a < base.size → mul_byte C 1 a ≡ a
  coded-one a h = ap byte (ap (λ x. x ⊗ elem a) C.elem-one ∙ R.mul_comm 𝟙 (elem a) ∙ R.mul-one (elem a)) ∙ C.byte-elem a h

  coded-unit : (v a : ℕ) → mul_byte C v (mul_byte C 1 a) ≡ mul_byte C v a
  coded-unit v a =
      ap (λ x. byte (elem v ⊗ x)) (C.elem-byte (elem 1 ⊗ elem a) ∙ ap (λ x. x ⊗ elem a) C.elem-one ∙ R.mul_comm 𝟙 (elem a) ∙ R.mul-one (elem a))

  coded_xor : (a u v : ℕ) → mul_byte C a (bit_xor u v) ≡ bit_xor (mul_byte C a u) (mul_byte C a v)
  coded_xor a u v =
      ap (λ x. byte (elem a ⊗ x)) (C.elem_xor u v) ∙ ap byte (R.mul-add (elem a) (elem u) (elem v)) ∙ C.byte-add (elem a ⊗ elem u) (elem a ⊗ elem v)

  coded_lt : (a b : ℕ) → mul_byte C a b < base.size
  coded_lt a b = C.byte_lt (elem a ⊗ elem b)

pub product-outer : (d a b c : ℕ) → byte_product d a (byte_product d b c) ≡ byte_product d c (byte_product d b a)
unfolding byte_product
product-outer d a b c = coded-outer (field_of d) a b c

pub product_xor : (d a u v : ℕ) → byte_product d a (bit_xor u v) ≡ bit_xor (byte_product d a u) (byte_product d a v)
unfolding byte_product
product_xor d a u v = coded_xor (field_of d) a u v

pub product-one : (d a : ℕ) → a < 2 ^ degree_of d → byte_product d 1 a ≡ a
unfolding byte_product degree_of
product-one d a h = coded-one (field_of d) a (subst (λ s. a < s) (sym (field_of d).size_is) h)

pub product_lt : (d a b : ℕ) → byte_product d a b < 2 ^ degree_of d
unfolding byte_product degree_of
product_lt d a b = subst (λ s. byte_product d a b < s) (field_of d).size_is (coded_lt (field_of d) a b)

product-unit : (d v a : ℕ) → byte_product d v (byte_product d 1 a) ≡ byte_product d v a
unfolding byte_product
product-unit d v a = coded-unit (field_of d) v a

-- a bit, as an element
pub product-scale : (d q a : ℕ) → q < 2 → a < 2 ^ degree_of d → byte_product d q a ≡ q * a
product-scale d zero a h k = product-zero d a ∙ sym (zero-mul a)
product-scale d (suc zero) a h k = product-one d a k ∙ sym (one-mul a)
product-scale d (suc (suc q)) a h k = absurd (omega arith)

-- the same under another factor, whatever is scaled
pub product-inner : (d v q a : ℕ) → q < 2 → byte_product d v (byte_product d q a) ≡ q * byte_product d v a
product-inner d v zero a h = ap (byte_product d v) (product-zero d a) ∙ product_comm d v 0 ∙ product-zero d v ∙ sym (zero-mul (byte_product d v a))
product-inner d v (suc zero) a h = product-unit d v a ∙ sym (one-mul (byte_product d v a))
product-inner d v (suc (suc q)) a h = absurd (omega arith)

-- a bit at each place, and the factors of its row and of the two other indices
pub product-rows : (d n : ℕ) (W : ℕ → ℕ) (x k : ℕ) (f : ℕ → ℕ) (q : ℕ → ℕ → ℕ) → ((ρ j : ℕ) → q ρ j < 2)
    → byte_product d x (xor_sum n (λ ρ. byte_product d (W ρ) (xor_sum k (λ j. q ρ j * f j)))) ≡ xor_sum n (λ ρ. xor_sum k (λ j. q ρ j * byte_product d x (byte_product d (W ρ) (f j))))
product-rows d n W x k f q h =
    product-sum d x n (λ ρ. byte_product d (W ρ) (xor_sum k (λ j. q ρ j * f j)))
    ∙ sum_same n _ _ (λ ρ l.
    ap (byte_product d x) (sym (product-bits d (W ρ) k (q ρ) f (h ρ))) ∙ sym (product-bits d x k (q ρ) (λ j. byte_product d (W ρ) (f j)) (h ρ)))
