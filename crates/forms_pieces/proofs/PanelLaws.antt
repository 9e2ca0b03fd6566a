-- What the stacks of a panel come to: the sums over the rows of the batched matrix, folded.
-- Assumes nothing.
use mathlib.Core.Path.{◌≡◌, refl, sym, ap, ◌∙◌}
use mathlib.Core.Bool.{Bool, true, false}
use mathlib.Core.List.{List}
use Prim.Native.Nat.{ℕ, ◌+◌, ◌*◌, ◌≤◌, ◌^◌, ◌<◌}
use native.Mathlib.Nat.{zero-mul}
use native.Mathlib.Decide.{dec_lt}
use native.Mathlib.Omega.{arith}
use lib.Pow.{pow_pos}
use lib.Bits.{bit_xor, xor_zero_r}
use Rattle.galois.specs.Degrees.{degree_of}
use Rattle.strings.specs.Sums.{byte_at, xor_sum}
use Rattle.strings.proofs.SumLaws.{sum_same, sum-none, sum_lt, sum_parts, sum_both}
use Rattle.forms_columns.specs.Stacks.{byte_product}
use Rattle.forms_columns.proofs.ProductLaws.{product_comm, product-zero}
use Rattle.forms_batching.specs.Batched.{batched_byte, rows_sum}
use Rattle.forms_pieces.specs.FormSums.{left_sum}
use Rattle.forms_batching.proofs.FormLaws.{product-scale, product_lt, product_xor}

-- bits that are 0 give nothing
no_polar : (d J : ℕ) (x L : ℕ → ℕ) → ((c : ℕ) → x c ≡ 0) → xor_sum 16 (λ s. byte_product d (x (J * 16 + s)) (L (J * 16 + s))) ≡ 0
no_polar d J x L none = sum_same 16 _ (λ s. 0) (λ s l. ap (λ v. byte_product d v (L (J * 16 + s))) (none (J * 16 + s)) ∙ product-zero d _) ∙ sum-none 16

-- ---- what the columns of a part give, panel J of the whole matrix: to the form, and to half of the polar form

-- what the part of panel J that begins at the sixteen `top` gives at y, with W from the left
abbrev pub part_term : ℕ → ℕ → ℕ → ℕ → List ℕ → (ℕ → ℕ → ℕ) → ℕ → (ℕ → ℕ) → (ℕ → ℕ) → ℕ → ℕ → ℕ → ℕ
part_term d n w m A χ e y W top rows J = xor_sum 16 (λ s. byte_product d (y (J * 16 + s)) (rows_sum d w (n * w) m A χ e W top rows (J * 16 + s)))

module _ (d n w m : ℕ) (A : List ℕ) (χ : ℕ → ℕ → ℕ) (e : ℕ) where
  rows_lt : (W : ℕ → ℕ) (top rows c : ℕ) → rows_sum d w (n * w) m A χ e W top rows c < 2 ^ degree_of d
  rows_lt W top rows c = sum_lt (degree_of d) (rows * 16) _ (pow_pos (degree_of d)) (λ ρ l. product_lt d (W (top * 16 + ρ)) (batched_byte w (n * w) m A χ e (top * 16 + ρ) c))

  -- two parts, one below the other
  pub rows_parts : (W : ℕ → ℕ) (rows more c : ℕ)
      → rows_sum d w (n * w) m A χ e W 0 (rows + more) c ≡ bit_xor (rows_sum d w (n * w) m A χ e W 0 rows c) (rows_sum d w (n * w) m A χ e W rows more c)
  rows_parts W rows more c =
      let all : (rows + more) * 16 ≡ rows * 16 + more * 16 = omega arith in
      ap (λ k. xor_sum k (λ ρ. byte_product d (W (0 * 16 + ρ)) (batched_byte w (n * w) m A χ e (0 * 16 + ρ) c))) all
      ∙ sum_parts (rows * 16) (more * 16) (λ ρ. byte_product d (W (0 * 16 + ρ)) (batched_byte w (n * w) m A χ e (0 * 16 + ρ) c))
      ∙ ap (bit_xor (rows_sum d w (n * w) m A χ e W 0 rows c)) (sum_same (more * 16) _ _ (λ ρ l.
      let place : 0 * 16 + (rows * 16 + ρ) ≡ rows * 16 + ρ = omega arith in
      ap (λ k. byte_product d (W k) (batched_byte w (n * w) m A χ e k c)) place))

  pub rows_all : (W : ℕ → ℕ) (J c : ℕ) → rows_sum d w (n * w) m A χ e W 0 (J + 1) c ≡ left_sum d w (n * w) m A χ e W J c
  rows_all W J c =
      sum_same ((J + 1) * 16) _ _ (λ ρ l.
      let place : 0 * 16 + ρ ≡ ρ = omega arith in
      ap (λ k. byte_product d (W k) (batched_byte w (n * w) m A χ e k c)) place)

  pub term_parts : (y W : ℕ → ℕ) (rows more J : ℕ)
      → part_term d n w m A χ e y W 0 (rows + more) J ≡ bit_xor (part_term d n w m A χ e y W 0 rows J) (part_term d n w m A χ e y W rows more J)
  term_parts y W rows more J =
      sum_same 16 _ _ (λ s l.
      ap (byte_product d (y (J * 16 + s))) (rows_parts W rows more (J * 16 + s))
      ∙ product_xor d (y (J * 16 + s)) (rows_sum d w (n * w) m A χ e W 0 rows (J * 16 + s)) (rows_sum d w (n * w) m A χ e W rows more (J * 16 + s)))
      ∙ sum_both 16 (λ s. byte_product d (y (J * 16 + s)) (rows_sum d w (n * w) m A χ e W 0 rows (J * 16 + s)))
      (λ s. byte_product d (y (J * 16 + s)) (rows_sum d w (n * w) m A χ e W rows more (J * 16 + s)))

  pub term-none : (y W : ℕ → ℕ) (J : ℕ) → part_term d n w m A χ e y W 0 0 J ≡ 0
  unfolding xor_sum
  term-none y W J = sum_same 16 _ (λ s. 0) (λ s l. product_comm d (y (J * 16 + s)) 0 ∙ product-zero d (y (J * 16 + s))) ∙ sum-none 16

  module _ (W : ℕ → ℕ) (top rows J : ℕ) (F : ℕ → ℕ) (is : (s : ℕ) → s < 16 → J * 16 + s < n → F s ≡ rows_sum d w (n * w) m A χ e W top rows (J * 16 + s)) where
    -- there are no columns from n on either
    column_is : (y s : ℕ) → s < 16 → (n ≤ J * 16 + s → y ≡ 0) → byte_product d y (F s) ≡ byte_product d y (rows_sum d w (n * w) m A χ e W top rows (J * 16 + s))
    column_is y s hs gone = go (dec_lt (J * 16 + s) n)
      where
        go : Dec (J * 16 + s < n) → byte_product d y (F s) ≡ byte_product d y (rows_sum d w (n * w) m A χ e W top rows (J * 16 + s))
        go (yes col) = ap (byte_product d y) (is s hs col)
        go (no past) =
            let zero : y ≡ 0 = gone (omega arith) in
            rw zero (product-zero d (F s) ∙ sym (product-zero d (rows_sum d w (n * w) m A χ e W top rows (J * 16 + s))))

    bit_column_is : (q s : ℕ) → s < 16 → q < 2 → (n ≤ J * 16 + s → q ≡ 0) → q * F s ≡ byte_product d q (rows_sum d w (n * w) m A χ e W top rows (J * 16 + s))
    bit_column_is q s hs hq gone = go (dec_lt (J * 16 + s) n)
      where
        go : Dec (J * 16 + s < n) → q * F s ≡ byte_product d q (rows_sum d w (n * w) m A χ e W top rows (J * 16 + s))
        go (yes col) = ap (λ x. q * x) (is s hs col) ∙ sym (product-scale d q (rows_sum d w (n * w) m A χ e W top rows (J * 16 + s)) hq (rows_lt W top rows (J * 16 + s)))
        go (no past) =
            let zero : q ≡ 0 = gone (omega arith) in
            rw zero (zero-mul (F s) ∙ sym (product-zero d (rows_sum d w (n * w) m A χ e W top rows (J * 16 + s))))

    pub quad_is : (y : ℕ → ℕ) → ((c : ℕ) → n ≤ c → c < J * 16 + 16 → y c ≡ 0) → xor_sum 16 (λ s. byte_product d (y (J * 16 + s)) (F s)) ≡ part_term d n w m A χ e y W top rows J
    quad_is y gone = sum_same 16 _ _ (λ s hs. column_is (y (J * 16 + s)) s hs (λ past. gone (J * 16 + s) past (omega arith)))

    pub mid_is : (asked : Bool) (xs old new : List ℕ) → ((c : ℕ) → byte_at xs c < 2) → ((c : ℕ) → n ≤ c → byte_at xs c ≡ 0) → (asked ≡ false → (c : ℕ) → byte_at xs c ≡ 0)
        → (asked ≡ true → byte_at new e ≡ bit_xor (byte_at old e) (xor_sum 16 (λ s. byte_at xs (J * 16 + s) * F s))) → (asked ≡ false → new ≡ old)
        → byte_at new e ≡ bit_xor (byte_at old e) (part_term d n w m A χ e (byte_at xs) W top rows J)
    mid_is true xs old new bits gone none on off =
        on refl ∙ ap (bit_xor (byte_at old e)) (sum_same 16 _ _ (λ s hs. bit_column_is (byte_at xs (J * 16 + s)) s hs (bits (J * 16 + s)) (gone (J * 16 + s))))
    mid_is false xs old new bits gone none on off =
        ap (λ (r : List ℕ). byte_at r e) (off refl)
        ∙ sym (ap (bit_xor (byte_at old e)) (no_polar d J (byte_at xs) (rows_sum d w (n * w) m A χ e W top rows) (none refl)) ∙ xor_zero_r (byte_at old e))

-- ---- the panels, where so many sixteens of rows of each are done

-- where none are
pub terms_none : (d n w m : ℕ) (A : List ℕ) (χ : ℕ → ℕ → ℕ) (e N v : ℕ) (y W R : ℕ → ℕ) → ((J : ℕ) → J < N → R J ≡ 0)
    → v ≡ bit_xor v (xor_sum N (λ J. part_term d n w m A χ e y W 0 (R J) J))
terms_none d n w m A χ e N v y W R none =
    sym (ap (bit_xor v) (sum_same N _ (λ J. 0) (λ J l. ap (λ r. part_term d n w m A χ e y W 0 r J) (none J l) ∙ term-none d n w m A χ e y W J) ∙ sum-none N) ∙ xor_zero_r v)

-- where all are
pub terms_all : (d n w m : ℕ) (A : List ℕ) (χ : ℕ → ℕ → ℕ) (e N : ℕ) (y W : ℕ → ℕ)
    → xor_sum N (λ J. part_term d n w m A χ e y W 0 (J + 1) J) ≡ xor_sum N (λ J. xor_sum 16 (λ s. byte_product d (y (J * 16 + s)) (left_sum d w (n * w) m A χ e W J (J * 16 + s))))
terms_all d n w m A χ e N y W =
    sum_same N _ _ (λ J l. sum_same 16 _ _ (λ s k. ap (byte_product d (y (J * 16 + s))) (rows_all d n w m A χ e W J (J * 16 + s))))
