-- The written bytes are the sections C, d and ũ of 01.
-- Assumes nothing.
use mathlib.Core.Path.{◌≡◌, refl, sym, ap, ap₂, ◌∙◌}
use mathlib.Core.Bool.{true}
use mathlib.Core.List.{List}
use Prim.Native.Nat.{ℕ, zero, suc, ◌+◌, ◌*◌, ◌-◌, ◌/◌, ◌%◌, ◌≤◌, ◌<◌}
use native.Mathlib.Nat.{zero-mul, mul-zero, mod-eq_of_lt, div-add-mod', div-lt_iff_lt-mul, mod-lt}
use native.Mathlib.Numerals.{add-one}
use native.Mathlib.Decide.{dec_le}
use native.Mathlib.Omega.{arith}
use lib.Bits.{bit_xor, xor_lt}
use lib.ListN.{length, get_or-eq_default}
use Rattle.algebra.specs.Sum.{sum}
use Rattle.protocol.specs.Lists.{block_at}
use Rattle.protocol.specs.Strings.{bytes_for, bit, spare_zero, pack}
use Rattle.protocol.specs.Alphabet.{sym as symbol}
use Rattle.protocol.specs.Setting.{Setting, alphabet_of}
use Rattle.protocol.specs.Shape.{Shape, per_tree, k_of, l_of, w_of}
use Rattle.protocol.specs.Questions.{h_exact, h_spare, leaves_exact, leaves_spare}
use Rattle.protocol.specs.Key.{rows_spare}
use Rattle.protocol.specs.Prover.{u, correction, d_of, c_section, d_section, ũSection}
use Rattle.theorems.proofs.ListLaws.{length-block}
use Rattle.theorems.proofs.StringLaws.{bit_lt, spare-at, pack_congr}
use Rattle.theorems.proofs.HashLaws.{hash-split}
use Rattle.theorems.proofs.TestLaws.{eqb_eq, all-at}
use Rattle.format.proofs.FitLaws.{in_width}
use Rattle.strings.specs.Sums.{byte_at, bit_of}
use Rattle.strings.specs.Products.{bit_product}
use Rattle.strings.proofs.Rows.{row-end, row-byte, row_lt}
use Rattle.strings.proofs.Meaning.{bitOf_xor, bit_is, byte-sum, byte-bit, byte-scale}
use Rattle.strings.proofs.SumLaws.{sum_same, sum-short}
use Rattle.strings.proofs.ProductLaws.{product_lt}
use Rattle.strings.proofs.Packed.{packed, rows_are}
use Rattle.prover_sections.specs.Hash.{hash_bit}
use Rattle.tables.specs.Sums.{SumsAre, CorrectionsAre}
use Rattle.tables.proofs.SumsMeaning.{byte_of, u_lt, u_spare, sums_u}

-- the symbol of a sum of two bits
sum_symbol : (g : Setting) (a b : (alphabet_of g).K.base.R.F) → byte_of g a < 2 → byte_of g b < 2 → (alphabet_of g).symbol_of ((alphabet_of g).K.base.R.add a b) ≡ bit_xor (byte_of g a) (byte_of g b)
sum_symbol g a b h k = ap (λ x. x % 2) ((alphabet_of g).K.byte-add a b) ∙ mod-eq_of_lt (xor_lt 1 (byte_of g a) (byte_of g b) h k)

-- what its rows hold, a string of rows holds
rows_lt : (l : List ℕ) (n w m : ℕ) → 0 < m → length l ≡ n * w → ((e b : ℕ) → e < n → b < w → byte_at l (e * w + b) < m) → (i : ℕ) → byte_at l i < m
rows_lt l n w m pos long rows i = go (dec_le (length l) i) w refl
  where
    past : length l ≤ i → byte_at l i < m
    past h = rw (get_or-eq_default l 0 h) pos

    go : Dec (length l ≤ i) → (v : ℕ) → v ≡ w → byte_at l i < m
    go (yes h) v z = past h
    go (no h) zero z = absurd (h (omega (arith, long, mul-zero n, ap (λ x. n * x) z)))
    go (no f) (suc v) z =
        let h : i < length l = omega (arith, f) in
        let k : 0 < w = omega arith in
        let q : i / w < n = (div-lt_iff_lt-mul k).1 (rw (← long) h) in
        rw (div-add-mod' i w) at (rows (i / w) (i % w) q (mod-lt i k))

width_is : (g : Setting) (s : Shape) → w_of (alphabet_of g) s ≡ bytes_for (l_of (alphabet_of g) s)
unfolding w_of
width_is g s = refl

-- row has the coordinates of 01's u
abbrev pub IsU : Setting → Shape → List ℕ → List ℕ → Type 0
IsU g s leaves row = (c : ℕ) → c < 8 * w_of (alphabet_of g) s → bit row c ≡ byte_of g (u (alphabet_of g) s leaves 0 c)

pub first_is_u : (g : Setting) (s : Shape) (leaves sums : List ℕ) → 0 < s.τ → SumsAre sums leaves s.τ (w_of (alphabet_of g) s) (per_tree (alphabet_of g)) → IsU g s leaves (block_at sums (w_of (alphabet_of g) s) 0)
first_is_u g s leaves sums pos are c h = sums_u g s leaves 0 c sums s.τ are pos h

module _ (g : Setting) (s : Shape) (leaves : List ℕ) where
  abbrev w : ℕ
  w = w_of (alphabet_of g) s

  module _ (out sums : List ℕ) (are : SumsAre sums leaves s.τ w (per_tree (alphabet_of g))) (written : CorrectionsAre out sums (s.τ - 1) w) where
    correction-bit : (e c : ℕ) → e < s.τ - 1 → c < 8 * w
        → bit (block_at out w e) c ≡ bit_xor (byte_of g (u (alphabet_of g) s leaves (suc e) c)) (byte_of g (u (alphabet_of g) s leaves 0 c))
    correction-bit e c l h =
        let k : c / 8 < w = omega arith in
        let first : 0 * w + c / 8 ≡ c / 8 = omega arith in
        bit_is (block_at out w e) c
        ∙ ap (λ x. bit_of x (c % 8)) (row-byte out w e (c / 8) k ∙ written e (c / 8) l k)
        ∙ bitOf_xor (byte_at sums ((e + 1) * w + c / 8)) (byte_at sums (c / 8)) (c % 8)
        ∙ ap₂ bit_xor
        (ap (λ i. bit_of (byte_at sums (i * w + c / 8)) (c % 8)) (add-one e) ∙ row-bit (suc e) k ∙ sums_u g s leaves (suc e) c sums s.τ are (omega arith) h)
        (ap (λ i. bit_of (byte_at sums i) (c % 8)) (sym first) ∙ row-bit 0 k ∙ sums_u g s leaves 0 c sums s.τ are (omega arith) h)
      where
        row-bit : (i : ℕ) → c / 8 < w → bit_of (byte_at sums (i * w + c / 8)) (c % 8) ≡ bit (block_at sums w i) c
        row-bit i k = sym (bit_is (block_at sums w i) c ∙ ap (λ x. bit_of x (c % 8)) (row-byte sums w i (c / 8) k))

    pub corrections_are : leaves_exact (alphabet_of g) s (per_tree (alphabet_of g)) leaves ≡ true → leaves_spare (alphabet_of g) s (per_tree (alphabet_of g)) leaves ≡ true
        → length out ≡ (s.τ - 1) * w → ((i : ℕ) → byte_at sums i < 256) → out ≡ c_section (alphabet_of g) s leaves
    unfolding c_section correction
    corrections_are exact zeros long sums-bytes = rows_are w (s.τ - 1) out _ long row
      where
        bytes : (i : ℕ) → byte_at out i < 256
        bytes = rows_lt out (s.τ - 1) w 256 (omega arith) long (λ e b l h. rw (written e b l h) (xor_lt 8 (byte_at sums ((e + 1) * w + b)) (byte_at sums b) (sums-bytes ((e + 1) * w + b)) (sums-bytes b)))

        row : (e : ℕ) → e < s.τ - 1 → block_at out w e ≡ pack (l_of (alphabet_of g) s) (λ c. (alphabet_of g).symbol_of (correction (alphabet_of g) s leaves (suc e) c))
        row e l =
            packed (l_of (alphabet_of g) s) (block_at out w e) _ (size ∙ width_is g s) (row_lt out w e 256 (omega arith) bytes)
            (λ c h. correction-bit e c l (in_width g s c h) ∙ sym (sum_symbol g (u (alphabet_of g) s leaves (suc e) c) (u (alphabet_of g) s leaves 0 c) (u_lt g s leaves (suc e) c) (u_lt g s leaves 0 c)))
            (λ c low high.
            let k : c < 8 * w = omega (arith, size) in
            correction-bit e c l k ∙ ap₂ bit_xor (u_spare g s leaves (suc e) c exact zeros (omega arith) low k) (u_spare g s leaves 0 c exact zeros (omega arith) low k))
          where
            size : length (block_at out w e) ≡ w
            size = length-block out w e (omega (arith, row-end e (s.τ - 1) w l))

  pub difference_is : (x row : List ℕ) → IsU g s leaves row → pack s.n (λ c. bit_xor (bit x c) (bit row c)) ≡ d_section (alphabet_of g) s leaves x
  unfolding d_section d_of symbol l_of k_of
  difference_is x row is =
      pack_congr s.n _ _ (λ c l.
      ap₂ bit_xor (sym (byte-bit (alphabet_of g).K (bit x c) (bit_lt x c))) (is c (in_width g s c (omega arith)))
      ∙ sym (sum_symbol g ((alphabet_of g).K.elem (bit x c)) (u (alphabet_of g) s leaves 0 c) (rw (byte-bit (alphabet_of g).K (bit x c) (bit_lt x c)) (bit_lt x c)) (u_lt g s leaves 0 c)))

  module _ (H' row : List ℕ) (exact : h_exact (alphabet_of g) s H' ≡ true) (zeros : h_spare (alphabet_of g) s H' ≡ true) (is : IsU g s leaves row) where
    abbrev k : ℕ
    k = k_of (alphabet_of g) s

    abbrev row_at : ℕ → List ℕ
    row_at ρ = block_at H' (bytes_for k) ρ

    row-spare : (ρ c : ℕ) → ρ < s.t → k ≤ c → c < bytes_for k * 8 → bit (row_at ρ) c ≡ 0
    unfolding h_exact h_spare rows_spare
    row-spare ρ c l low high =
        let long : length H' ≡ s.t * bytes_for k = eqb_eq _ _ exact in
        spare-at k (row_at ρ) (all-at s.t (λ i. spare_zero (row_at i) k) zeros ρ l) c low (rw (length-block H' (bytes_for k) ρ (omega (arith, long, row-end ρ s.t (bytes_for k) l))) high)

    -- the product with a row of H' as the field has it
    product_is : (ρ : ℕ) → ρ < s.t → bit_product (bytes_for k * 8) (row_at ρ) row ≡ byte_of g (sum (alphabet_of g).K.base.R k (λ c. (alphabet_of g).K.base.R.mul (symbol (alphabet_of g) (row_at ρ) c) (u (alphabet_of g) s leaves 0 c)))
    unfolding symbol l_of bytes_for
    product_is ρ l =
        sum-short k (bytes_for k * 8) _ (omega arith) (λ c low high. ap (λ q. q * bit row c) (row-spare ρ c l low high) ∙ zero-mul (bit row c))
        ∙ sum_same k _ _ (λ c h. ap (λ q. bit (row_at ρ) c * q) (is c (in_width g s c (omega arith))) ∙ sym (byte-scale (alphabet_of g).K (bit (row_at ρ) c) (u (alphabet_of g) s leaves 0 c) (bit_lt (row_at ρ) c)))
        ∙ sym (byte-sum (alphabet_of g).K k _)

    pub hash_is : pack s.t (hash_bit H' row k) ≡ ũSection (alphabet_of g) s leaves H'
    unfolding ũSection l_of
    hash_is =
        pack_congr s.t _ _ (λ ρ l.
        ap₂ bit_xor (product_is ρ l) (is (k + ρ) (in_width g s (k + ρ) (omega arith)))
        ∙ sym (sum_symbol g _ (u (alphabet_of g) s leaves 0 (k + ρ)) (rw (← product_is ρ l) (product_lt (bytes_for k * 8) (row_at ρ) row)) (u_lt g s leaves 0 (k + ρ)))
        ∙ ap (alphabet_of g).symbol_of (sym (hash-split (alphabet_of g) s H' ρ (u (alphabet_of g) s leaves 0) l)))
