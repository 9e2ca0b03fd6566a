-- From bytes to elements: products, products with a bit, and the sums that rows of bits select.
--   bits_of x c == bit c of a string as an element, which is `sym` of the binary alphabet
-- Assumes nothing.
use mathlib.Core.Path.{◌≡◌, sym, ap, ap₂, ◌∙◌}
use mathlib.Core.Bool.{true}
use mathlib.Core.List.{List}
use Prim.Native.Nat.{ℕ, ◌+◌, ◌*◌, ◌≤◌, ◌<◌}
use native.Mathlib.Nat.{zero-mul, mul-zero, add_comm}
use native.Mathlib.Omega.{arith}
use lib.ListN.{length}
use Rattle.algebra.specs.Coded.{Coded, mul_byte}
use Rattle.algebra.specs.Sum.{sum, form}
use Rattle.algebra.proofs.SumLaws.{sum_ext, sum-mul}
use Rattle.protocol.specs.Strings.{bit, spare_zero}
use Rattle.theorems.proofs.StringLaws.{bit_lt}
use Rattle.strings.specs.Sums.{xor_sum, selected}
use Rattle.strings.proofs.SumLaws.{sum_same, sum_past}
use Rattle.strings.proofs.Meaning.{byte-sum, byte-bit, byte-scale}
use Rattle.lanes.specs.Lanes.{lanes, lane_at}
use Rattle.equations.specs.Equations.{row_product}
use Rattle.equations.proofs.BlockLaws.{bit_past, spare-past}

-- neither the row nor the string has bits past its end
pub product-short : (row x : List ℕ) (n : ℕ) → ((c : ℕ) → n ≤ c → bit x c ≡ 0) → row_product row x ≡ xor_sum n (λ c. bit row c * bit x c)
product-short row x n none =
    sym (sum_past (length row * 8) n _ (λ k. ap (λ b. b * bit x (length row * 8 + k)) (bit_past row (length row * 8 + k) (omega arith)) ∙ zero-mul _))
    ∙ ap (λ k. xor_sum k (λ c. bit row c * bit x c)) (add_comm (length row * 8) n)
    ∙ sum_past n (length row * 8) _ (λ k. ap (λ b. bit row (n + k) * b) (none (n + k) (omega arith)) ∙ mul-zero _)

module _ (C : Coded) where
  open C use {base, elem, byte}
  open base use {R}
  open R use {F, 𝟘, 𝟙, add as ◌⊕◌, mul as ◌⊗◌}

  infixl 65 ◌⊕◌
  infixl 70 ◌⊗◌
  pub byte-product : (a b : F) → byte (a ⊗ b) ≡ mul_byte C (byte a) (byte b)
  byte-product a b = ap₂ (λ x y. byte (x ⊗ y)) (sym (C.elem-byte a)) (sym (C.elem-byte b))

  abbrev pub bits_of : List ℕ → ℕ → F
  bits_of x c = elem (bit x c)

  -- ---- a form, row by row

  pub form-rows : (n : ℕ) (A : ℕ → ℕ → F) (x y : ℕ → F) → form R n A x y ≡ sum R n (λ i. x i ⊗ sum R n (λ j. A i j ⊗ y j))
  unfolding form
  form-rows n A x y = sum_ext R n _ _ (λ i. sum_ext R n _ (λ j. x i ⊗ (A i j ⊗ y j)) (λ j. R.mul_assoc (x i) (A i j) (y j)) ∙ sum-mul R n (x i) (λ j. A i j ⊗ y j))

  pub byte-form : (n : ℕ) (A : ℕ → ℕ → F) (x y : ℕ → F) → byte (form R n A x y) ≡ xor_sum n (λ i. byte (x i ⊗ sum R n (λ j. A i j ⊗ y j)))
  byte-form n A x y = ap byte (form-rows n A x y) ∙ byte-sum C n (λ i. x i ⊗ sum R n (λ j. A i j ⊗ y j))

  -- ---- products with a row

  pub product_is : (row x : List ℕ) (n : ℕ) → spare_zero x n ≡ true → row_product row x ≡ byte (sum R n (λ c. bits_of row c ⊗ bits_of x c))
  product_is row x n z =
      product-short row x n (λ c h. spare-past x n c z h)
      ∙ sum_same n _ _ (λ c h. sym (byte-scale C (bit row c) (bits_of x c) (bit_lt row c) ∙ ap (λ b. bit row c * b) (byte-bit C (bit x c) (bit_lt x c))))
      ∙ sym (byte-sum C n (λ c. bits_of row c ⊗ bits_of x c))

  pub selected_is : (n : ℕ) (row T : List ℕ) (e : ℕ) (f : ℕ → F) → ((c : ℕ) → c < n → lane_at T c e ≡ byte (f c)) → selected n row T lanes e ≡ byte (sum R n (λ c. bits_of row c ⊗ f c))
  selected_is n row T e f holds =
      sum_same n _ _ (λ c h. ap (λ b. bit row c * b) (holds c h) ∙ sym (byte-scale C (bit row c) (f c) (bit_lt row c)))
      ∙ sym (byte-sum C n (λ c. bits_of row c ⊗ f c))
