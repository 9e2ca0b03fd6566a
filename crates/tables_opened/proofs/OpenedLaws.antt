-- A lane of W from the sums of an opened tree: with 0 for the leaf that is left out, W = v + δ·(u + C).
-- Assumes nothing.
use Prim.Native.Nat.{ℕ, zero, suc, ◌+◌, ◌*◌, ◌/◌, ◌%◌, ◌^◌, ◌<◌, ◌≤◌}
use mathlib.Core.Path.{◌≡◌, refl, sym, ap, ap₂, ◌∙◌}
use mathlib.Core.Bool.{Bool, true, false, cond}
use mathlib.Core.List.{List}
use native.Mathlib.Nat.{mul-zero, zero-mul}
use native.Mathlib.Omega.{arith}
use lib.Bits.{bit_xor, xor_lt, xor_zero_r}
use lib.Dec.{eqb, lit<}
use lib.Pow.{pow_pos}
use Rattle.protocol.specs.Lists.{block_at}
use Rattle.protocol.specs.Strings.{bit}
use Rattle.protocol.specs.Leaves.{opened_leaf}
use Rattle.theorems.proofs.StringLaws.{bit_lt}
use Rattle.strings.specs.Sums.{byte_at, bit_of, xor_sum}
use Rattle.strings.proofs.Rows.{row-byte}
use Rattle.strings.proofs.SumLaws.{sum_same, sum_both, sum-scale, sum_lt, scale_xor, xor_scale}
use Rattle.strings.proofs.Meaning.{bitOf_lt, bitOf_xor, bitOf_zero, bitOf_sum, bit-times, times-bit, bit_is}
use Rattle.strings.proofs.XorLaws.{xor_assoc}
use Rattle.trees.specs.Trees.{leaf_byte, Absorbed}
use Rattle.tables.specs.Sums.{planes_byte, NoPlanesFrom}
use Rattle.tables_opened.specs.Opened.{correction_bit, correction_byte, w_byte}
use Rattle.tables.proofs.TreeLaws.{times_lt, high_bit, planes-byte}

-- what is left out is 0: its bits, its multiples, its bound
bit-unless : (b : Bool) (y i : ℕ) → bit_of (cond b 0 y) i ≡ cond b 0 (bit_of y i)
bit-unless true y i = bitOf_zero i
bit-unless false y i = refl

times-unless : (b : Bool) (q r x : ℕ) → q < 2 → r < 2 → cond b 0 (bit_xor q r * x) ≡ bit_xor (q * cond b 0 x) (r * cond b 0 x)
times-unless true q r x h k = sym (ap₂ bit_xor (mul-zero q) (mul-zero r))
times-unless false q r x h k = xor_scale q r x h k

lt_unless : (b : Bool) (y m : ℕ) → 0 < m → y < m → cond b 0 y < m
lt_unless true y m pos h = pos
lt_unless false y m pos h = h

-- Σ (j + δ)·x_j = Σ j·x_j + δ·Σ x_j, in bit p of the weights, with 0 for x_δ
weights : (n δ p : ℕ) (x : ℕ → ℕ)
    → xor_sum n (λ j. cond (eqb j δ) 0 (bit_xor (bit_of j p) (bit_of δ p) * x j))
    ≡ bit_xor (xor_sum n (λ j. bit_of j p * cond (eqb j δ) 0 (x j))) (bit_of δ p * xor_sum n (λ j. cond (eqb j δ) 0 (x j)))
weights n δ p x =
    sum_same n _ _ (λ j h. times-unless (eqb j δ) (bit_of j p) (bit_of δ p) (x j) (bitOf_lt j p) (bitOf_lt δ p))
    ∙ sum_both n (λ j. bit_of j p * cond (eqb j δ) 0 (x j)) (λ j. bit_of δ p * cond (eqb j δ) 0 (x j))
    ∙ ap (bit_xor (xor_sum n (λ j. bit_of j p * cond (eqb j δ) 0 (x j)))) (sum-scale (bit_of δ p) n (λ j. cond (eqb j δ) 0 (x j)) (bitOf_lt δ p))

module _ (C : List ℕ) (w c : ℕ) where
  correction_lt : (e : ℕ) → correction_bit C w e c < 2
  correction_lt zero = lit< tt
  correction_lt (suc e) = bit_lt (block_at C w e) c

  correction-byte : (e : ℕ) → c < 8 * w → bit_of (correction_byte C w e (c / 8)) (c % 8) ≡ correction_bit C w e c
  correction-byte zero h = bitOf_zero (c % 8)
  correction-byte (suc e) h =
      let l : c / 8 < w = omega arith in
      sym (bit_is (block_at C w e) c ∙ ap (λ y. bit_of y (c % 8)) (row-byte C w e (c / 8) l))

module _ (tree C : List ℕ) (r w e δ c : ℕ) where
  abbrev count : ℕ
  count = 2 ^ r

  abbrev leaf_bit : ℕ → ℕ
  leaf_bit j = bit (opened_leaf w δ tree j) c

  -- leaf j, or 0 for the one that is left out
  abbrev used : ℕ → ℕ
  used j = cond (eqb j δ) 0 (leaf_bit j)

  abbrev byte_of_leaf : ℕ → ℕ
  byte_of_leaf j = leaf_byte tree w δ j (c / 8)

  used-bit : (j : ℕ) → bit_of (byte_of_leaf j) (c % 8) ≡ used j
  used-bit j = bit-unless (eqb j δ) (byte_at (opened_leaf w δ tree j) (c / 8)) (c % 8) ∙ ap (cond (eqb j δ) 0) (sym (bit_is (opened_leaf w δ tree j) c))

  w_lt : δ < count → w_byte tree C count w e δ c < count
  w_lt h =
      xor_lt r _ _
      (sum_lt r count _ (pow_pos r) (λ j k. lt_unless (eqb j δ) _ count (pow_pos r) (times_lt count (bit_xor j δ) (leaf_bit j) (xor_lt r j δ k h) (bit_lt (opened_leaf w δ tree j) c))))
      (times_lt count δ (correction_bit C w e c) h (correction_lt C w c e))

  -- bit p of W, and the bit of the planes, are both this
  abbrev bit_of_w : ℕ → ℕ
  bit_of_w p = bit_xor (xor_sum count (λ j. bit_of j p * used j)) (bit_of δ p * bit_xor (xor_sum count used) (correction_bit C w e c))

  w_bit : (p : ℕ) → bit_of (w_byte tree C count w e δ c) p ≡ bit_of_w p
  w_bit p =
      bitOf_xor _ (δ * correction_bit C w e c) p
      ∙ ap₂ bit_xor
      (bitOf_sum count _ p
      ∙ sum_same count _ _ (λ j k.
      bit-unless (eqb j δ) (bit_xor j δ * leaf_bit j) p
      ∙ ap (cond (eqb j δ) 0) (times-bit (leaf_bit j) (bit_xor j δ) p (bit_lt (opened_leaf w δ tree j) c) ∙ ap (λ q. q * leaf_bit j) (bitOf_xor j δ p)))
      ∙ weights count δ p leaf_bit)
      (times-bit (correction_bit C w e c) δ p (correction_lt C w c e))
      ∙ xor_assoc (xor_sum count (λ j. bit_of j p * used j)) (bit_of δ p * xor_sum count used) (bit_of δ p * correction_bit C w e c)
      ∙ ap (bit_xor (xor_sum count (λ j. bit_of j p * used j))) (sym (scale_xor (bit_of δ p) (xor_sum count used) (correction_bit C w e c) (bitOf_lt δ p)))

  plane_bit : c < 8 * w → (p : ℕ)
      → bit_of (bit_xor (xor_sum count (λ j. bit_of j p * byte_of_leaf j)) (bit_of δ p * bit_xor (xor_sum count byte_of_leaf) (correction_byte C w e (c / 8)))) (c % 8) ≡ bit_of_w p
  plane_bit h p =
      bitOf_xor (xor_sum count (λ j. bit_of j p * byte_of_leaf j)) _ (c % 8)
      ∙ ap₂ bit_xor
      (bitOf_sum count _ (c % 8)
      ∙ sum_same count _ _ (λ j k. bit-times (bit_of j p) (byte_of_leaf j) (c % 8) (bitOf_lt j p) ∙ ap (λ y. bit_of j p * y) (used-bit j)))
      (bit-times (bit_of δ p) _ (c % 8) (bitOf_lt δ p)
      ∙ ap (λ y. bit_of δ p * y)
      (bitOf_xor (xor_sum count byte_of_leaf) (correction_byte C w e (c / 8)) (c % 8)
      ∙ ap₂ bit_xor (bitOf_sum count byte_of_leaf (c % 8) ∙ sum_same count _ _ (λ j k. used-bit j)) (correction-byte C w c e h)))

  -- the planes of v with δ·(u + C_e) added are those of W_e
  pub planes_w : (planes : List ℕ) → c < 8 * w → δ < count → r ≤ 8
      → ((p : ℕ) → p < r → byte_at planes (p * w + c / 8) ≡ bit_xor (xor_sum count (λ j. bit_of j p * byte_of_leaf j)) (bit_of δ p * bit_xor (xor_sum count byte_of_leaf) (correction_byte C w e (c / 8))))
      → NoPlanesFrom r w planes → planes_byte planes w c ≡ w_byte tree C count w e δ c
  planes_w planes h d few is none =
      planes-byte planes w c (w_byte tree C count w e δ c) r h few (w_lt d) (λ p k. ap (λ y. bit_of y (c % 8)) (is p k) ∙ plane_bit h p ∙ sym (w_bit p)) none

-- the planes from r on stay 0, as the bits of δ are there
pub none-added : (old new u : List ℕ) (w r δ : ℕ) → δ < 2 ^ r → NoPlanesFrom r w old → Absorbed w 8 δ u old new → NoPlanesFrom r w new
none-added old new u w r δ h none added p b low high l =
    added p b high l ∙ ap₂ bit_xor (none p b low high l) (ap (λ q. q * byte_at u b) (high_bit δ r p h low) ∙ zero-mul (byte_at u b)) ∙ xor_zero_r 0
