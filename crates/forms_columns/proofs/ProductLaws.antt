-- Laws of products and of the powers of α; a byte is the sum of the powers that its bits weigh.
-- Assumes nothing.
use mathlib.Core.Path.{◌≡◌, sym, ap, ap₂, ◌∙◌}
use mathlib.Core.Bool.{Bool}
use Prim.Native.Nat.{ℕ, zero, suc, ◌+◌, ◌*◌, ◌%◌, ◌^◌, ◌≤◌, ◌<◌}
use native.Mathlib.Nat.{mod-lt, mod-eq_of_lt, add-zero, add-suc, add_comm, zero-mul, one-mul}
use native.Mathlib.Omega.{arith}
use lib.Pow.{pow_pos}
use lib.Dec.{T, eqb, eqb→eq, lit<}
use Rattle.algebra.specs.Coded.{Coded, mul_byte, pow_byte}
use Rattle.algebra.specs.BitField.{computing}
use Rattle.algebra.specs.Sum.{power}
use Rattle.algebra.proofs.RingLaws.{mul-zero, mul_left_comm}
use Rattle.algebra.proofs.SumLaws.{sum-mul}
use Rattle.algebra.proofs.TestLaws.{every_below, every-at}
use Rattle.galois.specs.Gf256.{gf256}
use Rattle.galois.specs.Gf16.{gf16}
use Rattle.galois.specs.Degrees.{field_of, degree_of}
use Rattle.field.proofs.ProductLaws.{elem-low}
use Rattle.galois.proofs.DegreeLaws.{each_field, degree-least, degree-most}
use Rattle.theorems.proofs.StringLaws.{bits_of}
use Rattle.strings.specs.Sums.{bit_of, xor_sum}
use Rattle.strings.proofs.SumLaws.{sum_same, sum-short}
use Rattle.strings.proofs.BitLaws.{bits-sum, kept-bit, cut-bit}
use Rattle.strings.proofs.Meaning.{bitOf_lt, elem-sum, byte-sum}
use Rattle.forms_columns.specs.Stacks.{alpha, byte_product}

module _ (C : Coded) where
  open C use {base, elem, byte}
  open base use {R}
  open R use {F, 𝟙, add as ◌⊕◌, mul as ◌⊗◌}

  infixl 65 ◌⊕◌
  infixl 70 ◌⊗◌
  coded-sum : (a n : ℕ) (g : ℕ → ℕ) → mul_byte C a (xor_sum n g) ≡ xor_sum n (λ i. mul_byte C a (g i))
  coded-sum a n g =
      ap (λ y. byte (elem a ⊗ y)) (elem-sum C n g) ∙ ap byte (sym (sum-mul R n (elem a) (λ i. elem (g i)))) ∙ byte-sum C n (λ i. elem a ⊗ elem (g i))

  coded-bit : (a q x : ℕ) → q < 2 → mul_byte C a (q * x) ≡ q * mul_byte C a x
  coded-bit a zero x h =
      ap (mul_byte C a) (zero-mul x)
      ∙ ap byte (ap (λ y. elem a ⊗ y) C.elem-zero ∙ mul-zero R (elem a) ∙ sym C.elem-zero)
      ∙ C.byte-elem 0 (omega (arith, base.four≤size)) ∙ sym (zero-mul (mul_byte C a x))
  coded-bit a (suc zero) x h = ap (mul_byte C a) (one-mul x) ∙ sym (one-mul (mul_byte C a x))
  coded-bit a (suc (suc q)) x h = absurd (omega arith)

  coded_comm : (a b : ℕ) → mul_byte C a b ≡ mul_byte C b a
  coded_comm a b = ap byte (R.mul_comm (elem a) (elem b))

  power-add : (a : F) (p i : ℕ) → power R a (p + i) ≡ power R a p ⊗ power R a i
  unfolding power
  power-add a p zero = ap (power R a) (add-zero p) ∙ sym (R.mul-one (power R a p))
  power-add a p (suc i) = ap (power R a) (add-suc p i) ∙ ap (λ y. a ⊗ y) (power-add a p i) ∙ mul_left_comm R a (power R a p) (power R a i)

  coded-power : (x p i : ℕ) → pow_byte C x (p + i) ≡ mul_byte C (pow_byte C x p) (pow_byte C x i)
  coded-power x p i =
      ap byte (power-add (elem x) p i)
      ∙ ap₂ (λ y z. byte (y ⊗ z)) (sym (C.elem-byte (power R (elem x) p))) (sym (C.elem-byte (power R (elem x) i)))

pub product-sum : (d a n : ℕ) (g : ℕ → ℕ) → byte_product d a (xor_sum n g) ≡ xor_sum n (λ i. byte_product d a (g i))
unfolding byte_product
product-sum d a n g = coded-sum (field_of d) a n g

pub product-bit : (d a q x : ℕ) → q < 2 → byte_product d a (q * x) ≡ q * byte_product d a x
unfolding byte_product
product-bit d a q x h = coded-bit (field_of d) a q x h

pub product_comm : (d a b : ℕ) → byte_product d a b ≡ byte_product d b a
unfolding byte_product
product_comm d a b = coded_comm (field_of d) a b

pub product-zero : (d a : ℕ) → byte_product d 0 a ≡ 0
product-zero d a =
    product_comm d 0 a ∙ ap (byte_product d a) (sym (zero-mul 0)) ∙ product-bit d a 0 0 (lit< tt) ∙ zero-mul (byte_product d a 0)

pub alpha-add : (d p i : ℕ) → alpha d (p + i) ≡ byte_product d (alpha d p) (alpha d i)
unfolding alpha byte_product
alpha-add d p i = coded-power (field_of d) 2 p i

-- ---- the powers of α below the degree

weighs : Coded → ℕ → Bool
weighs C s = eqb (2 ^ s) (pow_byte C 2 s)

low-powers : T (every_below gf256.degree (weighs gf256))
unfolding weighs computing power
low-powers = tt

few_powers : T (every_below gf16.degree (weighs gf16))
unfolding weighs computing power
few_powers = tt

pub alpha-low : (d s : ℕ) → s < degree_of d → 2 ^ s ≡ alpha d s
unfolding weighs degree_of alpha
alpha-low d s =
    each_field (λ C. s < C.degree → 2 ^ s ≡ pow_byte C 2 s)
    (λ h. eqb→eq (2 ^ s) (pow_byte gf16 2 s) (every-at gf16.degree (weighs gf16) few_powers s h))
    (λ h. eqb→eq (2 ^ s) (pow_byte gf256 2 s) (every-at gf256.degree (weighs gf256) low-powers s h)) d

-- a product takes the low bits of its factors
pub product-low : (d a x : ℕ) → byte_product d a (x % 2 ^ degree_of d) ≡ byte_product d a x
unfolding byte_product degree_of
product-low d a x =
    each_field (λ C. mul_byte C a (x % 2 ^ C.degree) ≡ mul_byte C a x)
    (ap (λ y. gf16.byte (gf16.base.R.mul (gf16.elem a) y)) (elem-low 4 x))
    (ap (λ y. gf256.byte (gf256.base.R.mul (gf256.elem a) y)) (elem-low 8 x)) d

-- an element is the sum of the powers that its bits weigh
low_bits : (d v : ℕ) → v < 2 ^ degree_of d → xor_sum (degree_of d) (λ i. bit_of v i * alpha d i) ≡ v
unfolding bit_of
low_bits d v h =
    sum_same (degree_of d) _ _ (λ i l. ap (λ x. bit_of v i * x) (sym (alpha-low d i l))) ∙ bits-sum (degree_of d) (bit_of v) (bitOf_lt v) ∙ bits_of (degree_of d) v h

high_bit : (r v i : ℕ) → v < 2 ^ r → r ≤ i → bit_of v i ≡ 0
high_bit r v i h l = ap (λ x. bit_of x i) (sym (mod-eq_of_lt h)) ∙ cut-bit v r i l

-- under another factor, of any number
pub product-weights : (d a x : ℕ) → byte_product d a (xor_sum (degree_of d) (λ i. bit_of x i * alpha d i)) ≡ byte_product d a x
product-weights d a x =
    ap (byte_product d a) (sum_same (degree_of d) _ _ (λ i l. ap (λ y. y * alpha d i) (sym (kept-bit x (degree_of d) i l))) ∙ low_bits d (x % 2 ^ degree_of d) (mod-lt x (pow_pos (degree_of d))))
    ∙ product-low d a x

-- the same over eight bits, whatever the degree
pub byte-bits : (d v : ℕ) → v < 2 ^ degree_of d → xor_sum 8 (λ i. bit_of v i * alpha d i) ≡ v
byte-bits d v h =
    sum-short (degree_of d) 8 (λ i. bit_of v i * alpha d i) (degree-most d) (λ i l b. ap (λ x. x * alpha d i) (high_bit (degree_of d) v i h l) ∙ zero-mul (alpha d i)) ∙ low_bits d v h

-- a sum that bits weigh, times a byte
pub product-bits : (d a n : ℕ) (q x : ℕ → ℕ) → ((i : ℕ) → q i < 2) → xor_sum n (λ i. q i * byte_product d a (x i)) ≡ byte_product d a (xor_sum n (λ i. q i * x i))
product-bits d a n q x h = sum_same n _ _ (λ i l. sym (product-bit d a (q i) (x i) (h i))) ∙ sym (product-sum d a n (λ i. q i * x i))

pub alpha-zero : (d : ℕ) → 1 ≡ alpha d 0
alpha-zero d = alpha-low d 0 (omega (arith, degree-least d))

pub alpha_more : (d s : ℕ) → byte_product d 2 (alpha d s) ≡ alpha d (s + 1)
alpha_more d s =
    ap (λ x. byte_product d x (alpha d s)) (alpha-low d 1 (omega (arith, degree-least d))) ∙ sym (alpha-add d 1 s) ∙ ap (alpha d) (add_comm 1 s)
