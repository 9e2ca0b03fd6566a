-- The forms of the batched matrix are the batched forms of the equations.
-- Assumes nothing.
use mathlib.Core.Path.{◌≡◌, sym, ap, ap₂, ◌∙◌}
use mathlib.Core.List.{List}
use Prim.Native.Nat.{ℕ, ◌*◌, ◌/◌, ◌%◌, ◌^◌, ◌<◌}
use native.Mathlib.Nat.{zero-mul, mul-zero}
use native.Mathlib.Omega.{arith}
use lib.Bits.{bit_xor, xor_comm, xor_zero_r}
use lib.Dec.{lit<}
use lib.Pow.{pow_pos}
use Rattle.algebra.specs.Coded.{mul_byte}
use Rattle.galois.specs.Degrees.{field_of, degree_of}
use Rattle.protocol.specs.Strings.{bytes_for, bit}
use Rattle.theorems.proofs.StringLaws.{bit_lt}
use Rattle.strings.specs.Sums.{bit_of, xor_sum}
use Rattle.strings.proofs.XorLaws.{xor_assoc}
use Rattle.strings.proofs.SumLaws.{sum_same, sum_lt, sum-none, sum_both}
use Rattle.strings.proofs.ProductLaws.{bit_times_lt}
use Rattle.chunks.proofs.BitSumLaws.{sum-swap}
use Rattle.forms_columns.specs.Stacks.{byte_product}
use Rattle.forms_columns.proofs.ProductLaws.{product_comm, product-bits}
use Rattle.forms_batching.specs.Lines.{line_bit, line_sum}
use Rattle.forms_batching.proofs.FormLaws.{product-scale, product_xor}
use Rattle.forms_batching.proofs.StackLaws.{scaled_lt}
use Rattle.forms_pieces.specs.FormSums.{form_sum}
use Rattle.equations.specs.Equations.{row_of, matrix_of}
use Rattle.equations.proofs.BlockLaws.{bytes-enough}
use Rattle.equations.proofs.RowLaws.{row-bit}
use Rattle.forms.specs.Forms.{form_byte, row_bit, middle_byte}
use Rattle.forms.specs.Batch.{LinesAre, batch_of}

-- ---- batched sums

pub batch_xor : (d m : ℕ) (χ : ℕ → ℕ → ℕ) (e : ℕ) (u v : ℕ → ℕ) → bit_xor (batch_of d m χ e u) (batch_of d m χ e v) ≡ batch_of d m χ e (λ i. bit_xor (u i) (v i))
unfolding byte_product
batch_xor d m χ e u v =
    sym (sum_both m (λ i. mul_byte (field_of d) (χ e i) (u i)) (λ i. mul_byte (field_of d) (χ e i) (v i)))
    ∙ sum_same m _ _ (λ i l. sym (product_xor d (χ e i) (u i) (v i)))

pub batch-same : (d m : ℕ) (χ : ℕ → ℕ → ℕ) (e : ℕ) (u v : ℕ → ℕ) → ((i : ℕ) → i < m → u i ≡ v i) → batch_of d m χ e u ≡ batch_of d m χ e v
batch-same d m χ e u v same = sum_same m _ _ (λ i l. ap (mul_byte (field_of d) (χ e i)) (same i l))

-- ---- the lines

-- the bits of the lines, which are the rows of b
pub line-bit : (n m : ℕ) (b L : List ℕ) → LinesAre m (bytes_for n) b L
    → (i c : ℕ) → i < m → c < n → line_bit L m i c ≡ bit (row_of n b i) c
line-bit n m b L are i c hi hc =
    let covered : c < bytes_for n * 8 = omega (arith, bytes-enough n) in
    let inside : c / 8 < bytes_for n = omega arith in
    ap (λ x. bit_of x (c % 8)) (are i (c / 8) hi inside) ∙ row-bit b (bytes_for n) i c covered

-- ---- the forms

module _ (d n m e : ℕ) (A : List ℕ) (χ : ℕ → ℕ → ℕ) (g : ℕ → ℕ) where
  -- the sums of form_sum, by rows
  by_rows : (y W : ℕ → ℕ) → form_sum d n (bytes_for n) m A (χ) e y W ≡ xor_sum m (λ i. byte_product d (χ e i) (xor_sum n (λ ρ. byte_product d (W ρ) (row_bit n (row_of n (matrix_of n A i) ρ) y))))
  unfolding form_sum
  by_rows y W =
      sum_same m _ _ (λ i l. ap (byte_product d (χ e i)) (sum_same n _ _ (λ ρ k. ap (byte_product d (W ρ)) (sum_same n _ _ (λ c j.
      ap (λ x. x * y c) (row-bit (matrix_of n A i) (bytes_for n) ρ c (omega (arith, bytes-enough n))))))))

  pub form_is : form_sum d n (bytes_for n) m A (χ) e (λ c. g c) (λ c. g c) ≡ batch_of d m χ e (λ i. form_byte d n (matrix_of n A i) g)
  unfolding byte_product
  form_is = by_rows (λ c. g c) (λ c. g c)

  -- the batched lines at the vectors, where the lines are the rows of b
  pub lines_are : (b L : List ℕ) → LinesAre m (bytes_for n) b L
      → xor_sum n (λ c. byte_product d (g c) (line_sum L m (χ) e c)) ≡ batch_of d m χ e (λ i. row_bit n (row_of n b i) g)
  unfolding byte_product line_sum
  lines_are b L are =
      sum_same n _ (λ c. xor_sum m (λ i. bit (row_of n b i) c * byte_product d (χ e i) (g c))) (λ c l.
      ap (byte_product d (g c)) (sum_same m _ (λ i. bit (row_of n b i) c * χ e i) (λ i k.
      ap (λ x. x * χ e i) (line-bit n m b L are i c k l)))
      ∙ sym (product-bits d (g c) m (λ i. bit (row_of n b i) c) (λ i. χ e i) (λ i. bit_lt (row_of n b i) c))
      ∙ sum_same m _ _ (λ i k. ap (λ x. bit (row_of n b i) c * x) (product_comm d (g c) (χ e i))))
      ∙ sum-swap n m (λ c i. bit (row_of n b i) c * byte_product d (χ e i) (g c))
      ∙ sum_same m _ _ (λ i k. product-bits d (χ e i) n (bit (row_of n b i)) (λ c. g c) (bit_lt (row_of n b i)))

  module _ (narrow : (c : ℕ) → c < n → g c < 2 ^ degree_of d) (x : ℕ → ℕ) (bits : (c : ℕ) → x c < 2) where
    -- the two cross terms of an equation
    pub cross : ℕ → ℕ
    cross i = xor_sum n (λ ρ. bit_xor (x ρ * row_bit n (row_of n (matrix_of n A i) ρ) g) (row_bit n (row_of n (matrix_of n A i) ρ) x * g ρ))

    selected_lt : (row : List ℕ) → row_bit n row g < 2 ^ degree_of d
    selected_lt row = sum_lt (degree_of d) n _ (pow_pos (degree_of d)) (λ c l. scaled_lt (2 ^ degree_of d) (bit row c) (g c) (bit_lt row c) (narrow c l))

    row_lt : (row : List ℕ) → row_bit n row x < 2
    row_lt row = sum_lt 1 n _ (lit< tt) (λ c l. bit_times_lt (bit row c) (x c) (bit_lt row c) (bits c))

    pub polar_is : bit_xor (form_sum d n (bytes_for n) m A (χ) e (λ c. g c) x) (form_sum d n (bytes_for n) m A (χ) e x (λ c. g c)) ≡ batch_of d m χ e cross
    unfolding byte_product cross
    polar_is =
        ap₂ bit_xor
        (by_rows (λ c. g c) x ∙ sum_same m _ (λ i. mul_byte (field_of d) (χ e i) (xor_sum n (λ ρ. x ρ * row_bit n (row_of n (matrix_of n A i) ρ) g))) (λ i l.
        ap (mul_byte (field_of d) (χ e i)) (sum_same n _ _ (λ ρ k. product-scale d (x ρ) (row_bit n (row_of n (matrix_of n A i) ρ) g) (bits ρ) (selected_lt (row_of n (matrix_of n A i) ρ))))))
        (by_rows x (λ c. g c) ∙ sum_same m _ (λ i. mul_byte (field_of d) (χ e i) (xor_sum n (λ ρ. row_bit n (row_of n (matrix_of n A i) ρ) x * g ρ))) (λ i l.
        ap (mul_byte (field_of d) (χ e i)) (sum_same n _ _ (λ ρ k.
        product_comm d (g ρ) (row_bit n (row_of n (matrix_of n A i) ρ) x) ∙ product-scale d (row_bit n (row_of n (matrix_of n A i) ρ) x) (g ρ) (row_lt (row_of n (matrix_of n A i) ρ)) (narrow ρ k)))))
        ∙ batch_xor d m χ e (λ i. xor_sum n (λ ρ. x ρ * row_bit n (row_of n (matrix_of n A i) ρ) g)) (λ i. xor_sum n (λ ρ. row_bit n (row_of n (matrix_of n A i) ρ) x * g ρ))
        ∙ batch-same d m χ e _ _ (λ i l. sym (sum_both n (λ ρ. x ρ * row_bit n (row_of n (matrix_of n A i) ρ) g) (λ ρ. row_bit n (row_of n (matrix_of n A i) ρ) x * g ρ)))

    -- with the linear part they are the middle coefficients
    pub middle_is : (b : List ℕ) (v : ℕ) → bit_xor (bit_xor v (batch_of d m χ e cross)) (batch_of d m χ e (λ i. row_bit n (row_of n b i) g))
        ≡ bit_xor v (batch_of d m χ e (λ i. middle_byte n (matrix_of n A i) (row_of n b i) x g))
    unfolding cross
    middle_is b v =
        xor_assoc v (batch_of d m χ e cross) (batch_of d m χ e (λ i. row_bit n (row_of n b i) g))
        ∙ ap (bit_xor v) (xor_comm (batch_of d m χ e cross) (batch_of d m χ e (λ i. row_bit n (row_of n b i) g)) ∙ batch_xor d m χ e (λ i. row_bit n (row_of n b i) g) cross)

-- the bits may be given another way
pub middle-bits : (n : ℕ) (A b : List ℕ) (g x x' : ℕ → ℕ) → ((c : ℕ) → c < n → x c ≡ x' c) → middle_byte n A b x g ≡ middle_byte n A b x' g
middle-bits n A b g x x' same =
    ap (bit_xor (row_bit n b g)) (sum_same n _ _ (λ ρ l.
    ap₂ (λ p q. bit_xor (p * row_bit n (row_of n A ρ) g) (q * g ρ)) (same ρ l) (sum_same n _ _ (λ c k. ap (λ y. bit (row_of n A ρ) c * y) (same c k)))))

-- and where there are none, the linear part is left
pub middle-none : (n : ℕ) (A b : List ℕ) (g x : ℕ → ℕ) → ((c : ℕ) → x c ≡ 0) → middle_byte n A b x g ≡ row_bit n b g
middle-none n A b g x none =
    ap (bit_xor (row_bit n b g)) (sum_same n _ (λ ρ. 0) (λ ρ l.
    ap₂ bit_xor (ap (λ p. p * row_bit n (row_of n A ρ) g) (none ρ) ∙ zero-mul (row_bit n (row_of n A ρ) g))
    (ap (λ q. q * g ρ) (sum_same n _ (λ c. 0) (λ c k. ap (λ y. bit (row_of n A ρ) c * y) (none c) ∙ mul-zero (bit (row_of n A ρ) c)) ∙ sum-none n) ∙ zero-mul (g ρ))) ∙ sum-none n)
    ∙ xor_zero_r (row_bit n b g)
