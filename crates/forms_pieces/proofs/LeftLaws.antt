-- What is added to the lines, xᵀ·F for each equation: panel by panel, at the vectors, batched.
-- Assumes nothing.
use mathlib.Core.Path.{◌≡◌, sym, ap, ap₂, ◌∙◌}
use mathlib.Core.List.{List}
use Prim.Native.Nat.{ℕ, ◌+◌, ◌*◌, ◌/◌, ◌%◌, ◌≤◌, ◌<◌}
use native.Mathlib.Nat.{zero-mul, mul_assoc}
use native.Mathlib.Decide.{dec_lt}
use native.Mathlib.Omega.{arith}
use lib.Arith.{digits_div}
use lib.Bits.{bit_xor, xor_comm, xor_zero_r}
use Rattle.protocol.specs.Lists.{block_at}
use Rattle.strings.specs.Sums.{byte_at, bit_of, xor_sum}
use Rattle.strings.proofs.XorLaws.{xor_assoc}
use Rattle.strings.proofs.SumLaws.{sum_same, sum-none, sum-short, sum_both, sum_parts, xor_scale}
use Rattle.strings.proofs.ProductLaws.{bit_times_lt}
use Rattle.strings.proofs.Meaning.{bitOf_lt}
use Rattle.chunks.specs.Chunks.{chunk, cell_at}
use Rattle.chunks.proofs.BitSumLaws.{sum-swap, sum-blocks, bits_lt, times-sum, bit-sum}
use Rattle.forms_folds.specs.Folds.{folded_bit}
use Rattle.forms_columns.specs.Stacks.{byte_product}
use Rattle.forms_columns.proofs.ProductLaws.{product-sum, product-bits, product-zero}
use Rattle.forms_batching.specs.Batched.{batched_byte}
use Rattle.forms_pieces.specs.FormSums.{left_sum, left_part, left_of}
use Rattle.forms_batching.specs.Lines.{line_byte, line_bit, left_bit, line_sum, LinesBeside}
use Rattle.forms_batching.proofs.FormLaws.{product_xor, product-inner}
use Rattle.forms_pieces.proofs.FoldLaws.{folded_bit_lt}

-- ---- the lines, part by part

-- bit c of line i has got its sum
abbrev pub Added : ℕ → ℕ → ℕ → List ℕ → (ℕ → ℕ) → List ℕ → List ℕ → ℕ → ℕ → Type 0
Added w size m A x L₀ L i c = line_bit L m i c ≡ bit_xor (line_bit L₀ m i c) (left_of w size A x i c)

-- bit c of line i has got the part of its sum that the rows of the first t sixteens are
abbrev pub AddedUpTo : ℕ → ℕ → ℕ → List ℕ → (ℕ → ℕ) → List ℕ → List ℕ → ℕ → ℕ → ℕ → Type 0
AddedUpTo w size m A x L₀ L i c t = line_bit L m i c ≡ bit_xor (line_bit L₀ m i c) (left_part w size A x i 0 t c)

-- bits that are 0 add nothing
pub left-none : (w size : ℕ) (A : List ℕ) (x : ℕ → ℕ) (i c : ℕ) → ((ρ : ℕ) → x ρ ≡ 0) → left_of w size A x i c ≡ 0
unfolding left_of
left-none w size A x i c none =
    sum_same ((c / 16 + 1) * 16) _ (λ ρ. 0) (λ ρ l. ap (λ v. v * folded_bit w (block_at A size i) ρ c) (none ρ) ∙ zero-mul (folded_bit w (block_at A size i) ρ c)) ∙ sum-none ((c / 16 + 1) * 16)

module _ (w size : ℕ) (A : List ℕ) (x : ℕ → ℕ) (i : ℕ) where
  -- two parts, one after the other
  pub part_parts : (top rows more c : ℕ) → left_part w size A x i top (rows + more) c ≡ bit_xor (left_part w size A x i top rows c) (left_part w size A x i (top + rows) more c)
  unfolding left_part
  part_parts top rows more c =
      let all : (rows + more) * 16 ≡ rows * 16 + more * 16 = omega arith in
      ap (λ k. xor_sum k (λ ρ. x (top * 16 + ρ) * folded_bit w (block_at A size i) (top * 16 + ρ) c)) all
      ∙ sum_parts (rows * 16) (more * 16) (λ ρ. x (top * 16 + ρ) * folded_bit w (block_at A size i) (top * 16 + ρ) c)
      ∙ ap (bit_xor (left_part w size A x i top rows c)) (sum_same (more * 16) _ _ (λ ρ l.
      let place : top * 16 + (rows * 16 + ρ) ≡ (top + rows) * 16 + ρ = omega arith in
      ap (λ k. x k * folded_bit w (block_at A size i) k c) place))

  -- the parts up to the column's own sixteen are all
  pub part-all : (c : ℕ) → left_part w size A x i 0 (c / 16 + 1) c ≡ left_of w size A x i c
  unfolding left_part left_of
  part-all c =
      sum_same ((c / 16 + 1) * 16) _ _ (λ ρ l.
      let place : 0 * 16 + ρ ≡ ρ = omega arith in
      ap (λ k. x k * folded_bit w (block_at A size i) k c) place)

  module _ (m : ℕ) (L₀ : List ℕ) where
    pub added_start : (c : ℕ) → AddedUpTo w size m A x L₀ L₀ i c 0
    unfolding left_part xor_sum
    added_start c = sym (xor_zero_r (line_bit L₀ m i c))

    pub added-end : (L : List ℕ) (c t : ℕ) → t ≡ c / 16 + 1 → AddedUpTo w size m A x L₀ L i c t → Added w size m A x L₀ L i c
    added-end L c t end added = added ∙ ap (bit_xor (line_bit L₀ m i c)) (ap (λ k. left_part w size A x i 0 k c) end ∙ part-all c)

    -- what is added to a panel leaves the columns of the others
    pub added_beside : (L L' : List ℕ) (J c t : ℕ) → i < m → (c / 16 ≡ J → ⊥) → LinesBeside m J L L' → AddedUpTo w size m A x L₀ L i c t → AddedUpTo w size m A x L₀ L' i c t
    added_beside L L' J c t hi other beside added =
        let twice : c / 8 / 2 ≡ c / 16 = omega arith in
        ap (λ b. bit_of b (c % 8)) (beside i (c / 8) hi (λ e. other (sym twice ∙ e))) ∙ added

-- the cells have `rows` sixteens of rows, from the sixteen `top` on, of panel J of m folded matrices of n rows
abbrev pub PartFolded : ℕ → ℕ → ℕ → List ℕ → ℕ → ℕ → ℕ → List ℕ → Type 0
PartFolded n w m A J top rows cells =
    (q i h f z : ℕ) → q < rows → i < m → h < 2 → f < 16 → z < 8 → (top + q) * 16 + f < n → J * 16 + (h * 8 + z) < n
    → bit_of (byte_at cells ((q * m + i) * chunk + (h * 16 + f))) z ≡ folded_bit w (block_at A (n * w) i) ((top + q) * 16 + f) (J * 16 + (h * 8 + z))

module _ (n w m : ℕ) (A cells : List ℕ) (J top rows : ℕ) (loaded : PartFolded n w m A J top rows cells) (x : ℕ → ℕ) (none : (ρ : ℕ) → n ≤ ρ → x ρ ≡ 0) where
  -- there are no rows from n on
  term_is : (i h z ρ : ℕ) → i < m → h < 2 → z < 8 → J * 16 + (h * 8 + z) < n → ρ < rows * 16
      → x (top * 16 + ρ) * bit_of (cell_at cells (ρ / 16 * m + i) (h * 16 + ρ % 16)) z ≡ x (top * 16 + ρ) * folded_bit w (block_at A (n * w) i) (top * 16 + ρ) (J * 16 + (h * 8 + z))
  term_is i h z ρ hi hh hz col l = go (dec_lt (top * 16 + ρ) n)
    where
      go : Dec (top * 16 + ρ < n) → x (top * 16 + ρ) * bit_of (cell_at cells (ρ / 16 * m + i) (h * 16 + ρ % 16)) z ≡ x (top * 16 + ρ) * folded_bit w (block_at A (n * w) i) (top * 16 + ρ) (J * 16 + (h * 8 + z))
      go (yes row) =
          let e : (top + ρ / 16) * 16 + ρ % 16 ≡ top * 16 + ρ = omega arith in
          ap (λ y. x (top * 16 + ρ) * y)
          (loaded (ρ / 16) i h (ρ % 16) z (omega arith) hi hh (omega arith) hz (omega arith) col ∙ ap (λ k. folded_bit w (block_at A (n * w) i) k (J * 16 + (h * 8 + z))) e)
      go (no past) =
          let zero : x (top * 16 + ρ) ≡ 0 = none (top * 16 + ρ) (omega arith) in
          rw zero (zero-mul (bit_of (cell_at cells (ρ / 16 * m + i) (h * 16 + ρ % 16)) z) ∙ sym (zero-mul (folded_bit w (block_at A (n * w) i) (top * 16 + ρ) (J * 16 + (h * 8 + z)))))

  left_is : (i h z : ℕ) → i < m → h < 2 → z < 8 → J * 16 + (h * 8 + z) < n → left_bit cells m x i top rows h z ≡ left_part w (n * w) A x i top rows (J * 16 + (h * 8 + z))
  unfolding left_bit left_part
  left_is i h z hi hh hz col = sum_same (rows * 16) _ _ (λ ρ l. term_is i h z ρ hi hh hz col l)

  -- one part more
  pub added_more : (L₀ L L' : List ℕ)
      → ((i h z : ℕ) → i < m → h < 2 → z < 8 → bit_of (line_byte L' m i (J * 2 + h)) z ≡ bit_xor (bit_of (line_byte L m i (J * 2 + h)) z) (left_bit cells m x i top rows h z))
      → (i c : ℕ) → i < m → c < n → c / 16 ≡ J → AddedUpTo w (n * w) m A x L₀ L i c top → AddedUpTo w (n * w) m A x L₀ L' i c (top + rows)
  added_more L₀ L L' here i c hi hc own added =
      let h = c / 8 % 2 in
      let z = c % 8 in
      let byte : J * 2 + c / 8 % 2 ≡ c / 8 = omega arith in
      let place : J * 16 + (c / 8 % 2 * 8 + c % 8) ≡ c = omega arith in
      let start : 0 + top ≡ top = omega arith in
      ap (λ k. bit_of (line_byte L' m i k) z) (sym byte)
      ∙ here i h z hi (omega arith) (omega arith)
      ∙ ap₂ bit_xor (ap (λ k. bit_of (line_byte L m i k) z) byte ∙ added) (left_is i h z hi (omega arith) (omega arith) (omega arith) ∙ ap (left_part w (n * w) A x i top rows) place)
      ∙ xor_assoc (line_bit L₀ m i c) (left_part w (n * w) A x i 0 top c) (left_part w (n * w) A x i top rows c)
      ∙ ap (bit_xor (line_bit L₀ m i c))
      (ap (λ k. bit_xor (left_part w (n * w) A x i 0 top c) (left_part w (n * w) A x i k rows c)) (sym start) ∙ sym (part_parts w (n * w) A x i 0 top rows c))

-- ---- the lines at the vectors, batched

module _ (w size : ℕ) (A : List ℕ) (x : ℕ → ℕ) (bits : (c : ℕ) → x c < 2) where
  term_lt : (i ρ c : ℕ) → x ρ * folded_bit w (block_at A size i) ρ c < 2
  term_lt i ρ c = bit_times_lt (x ρ) (folded_bit w (block_at A size i) ρ c) (bits ρ) (folded_bit_lt w (block_at A size i) ρ c)

  left_lt : (i c : ℕ) → left_of w size A x i c < 2
  unfolding left_of
  left_lt i c = bits_lt ((c / 16 + 1) * 16) _ (λ ρ. term_lt i ρ c)

module _ (d w size m : ℕ) (A : List ℕ) (χ : ℕ → ℕ → ℕ) (e : ℕ) (x : ℕ → ℕ) (bits : (c : ℕ) → x c < 2) where
  -- what is added to the lines, batched, times an element
  left-sum : (v c : ℕ) → byte_product d v (xor_sum m (λ i. left_of w size A x i c * χ e i)) ≡ byte_product d v (left_sum d w size m A χ e x (c / 16) c)
  unfolding left_of batched_byte
  left-sum v c =
      ap (byte_product d v)
      (sum_same m _ (λ i. xor_sum ((c / 16 + 1) * 16) (λ ρ. x ρ * folded_bit w (block_at A size i) ρ c * χ e i))
      (λ i l. times-sum ((c / 16 + 1) * 16) (λ ρ. x ρ * folded_bit w (block_at A size i) ρ c) (χ e i) (λ ρ. term_lt w size A x bits i ρ c))
      ∙ sum-swap m ((c / 16 + 1) * 16) (λ i ρ. x ρ * folded_bit w (block_at A size i) ρ c * χ e i)
      ∙ sum_same ((c / 16 + 1) * 16) _ (λ ρ. x ρ * batched_byte w size m A χ e ρ c) (λ ρ l.
      sum_same m _ _ (λ i k. mul_assoc (x ρ) (folded_bit w (block_at A size i) ρ c) (χ e i))
      ∙ sym (bit-sum (x ρ) m (λ i. folded_bit w (block_at A size i) ρ c * χ e i) (bits ρ))))
      ∙ sym (product-bits d v ((c / 16 + 1) * 16) x (λ ρ. batched_byte w size m A χ e ρ c) bits)
      ∙ sum_same ((c / 16 + 1) * 16) _ _ (λ ρ l. sym (product-inner d v (x ρ) (batched_byte w size m A χ e ρ c) (bits ρ)))
      ∙ sym (product-sum d v ((c / 16 + 1) * 16) (λ ρ. byte_product d (x ρ) (batched_byte w size m A χ e ρ c)))

  line-added : (L₀ L : List ℕ) (v c : ℕ) → ((i : ℕ) → i < m → Added w size m A x L₀ L i c)
      → byte_product d v (line_sum L m χ e c) ≡ bit_xor (byte_product d v (line_sum L₀ m χ e c)) (byte_product d v (left_sum d w size m A χ e x (c / 16) c))
  unfolding line_sum
  line-added L₀ L v c are =
      ap (byte_product d v)
      (sum_same m _ (λ i. bit_xor (line_bit L₀ m i c * χ e i) (left_of w size A x i c * χ e i))
      (λ i l. ap (λ b. b * χ e i) (are i l) ∙ xor_scale (line_bit L₀ m i c) (left_of w size A x i c) (χ e i) (bitOf_lt _ (c % 8)) (left_lt w size A x bits i c))
      ∙ sum_both m (λ i. line_bit L₀ m i c * χ e i) (λ i. left_of w size A x i c * χ e i))
      ∙ product_xor d v (line_sum L₀ m χ e c) (xor_sum m (λ i. left_of w size A x i c * χ e i))
      ∙ ap (bit_xor (byte_product d v (line_sum L₀ m χ e c))) (left-sum v c)

  module _ (N n : ℕ) (enough : n ≤ N * 16) (y : ℕ → ℕ) (gone : (c : ℕ) → n ≤ c → c < N * 16 → y c ≡ 0) where
    by-panels : xor_sum n (λ c. byte_product d (y c) (left_sum d w size m A χ e x (c / 16) c)) ≡ xor_sum N (λ J. xor_sum 16 (λ s. byte_product d (y (J * 16 + s)) (left_sum d w size m A χ e x J (J * 16 + s))))
    by-panels =
        sym (sum-short n (N * 16) (λ c. byte_product d (y c) (left_sum d w size m A χ e x (c / 16) c)) enough (λ c h l. ap (λ v. byte_product d v (left_sum d w size m A χ e x (c / 16) c)) (gone c h l) ∙ product-zero d _))
        ∙ sym (sum-blocks N 16 (λ c. byte_product d (y c) (left_sum d w size m A χ e x (c / 16) c)))
        ∙ sum_same N _ _ (λ J l. sum_same 16 _ _ (λ s k. ap (λ j. byte_product d (y (J * 16 + s)) (left_sum d w size m A χ e x j (J * 16 + s))) (digits_div J k)))

    pub lines-added : (L₀ L : List ℕ) → ((i c : ℕ) → i < m → c < n → Added w size m A x L₀ L i c)
        → xor_sum n (λ c. byte_product d (y c) (line_sum L m χ e c))
        ≡ bit_xor (xor_sum n (λ c. byte_product d (y c) (line_sum L₀ m χ e c))) (xor_sum N (λ J. xor_sum 16 (λ s. byte_product d (y (J * 16 + s)) (left_sum d w size m A χ e x J (J * 16 + s)))))
    lines-added L₀ L are =
        sum_same n _ (λ c. bit_xor (byte_product d (y c) (line_sum L₀ m χ e c)) (byte_product d (y c) (left_sum d w size m A χ e x (c / 16) c)))
        (λ c l. line-added L₀ L (y c) c (λ i k. are i c k l))
        ∙ sum_both n (λ c. byte_product d (y c) (line_sum L₀ m χ e c)) (λ c. byte_product d (y c) (left_sum d w size m A χ e x (c / 16) c))
        ∙ ap (bit_xor (xor_sum n (λ c. byte_product d (y c) (line_sum L₀ m χ e c)))) by-panels

-- the columns q, and then the lines b with what was added, p
pub both_halves : (v b p q : ℕ) → bit_xor (bit_xor v q) (bit_xor b p) ≡ bit_xor (bit_xor v (bit_xor p q)) b
both_halves v b p q = ap (bit_xor (bit_xor v q)) (xor_comm b p) ∙ sym (xor_assoc (bit_xor v q) p b) ∙ ap (λ y. bit_xor y b) (xor_assoc v q p ∙ ap (bit_xor v) (xor_comm q p))
