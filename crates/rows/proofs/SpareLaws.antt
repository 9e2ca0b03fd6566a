-- The spare bits of a row are the high bits of its last byte; and those of many rows are tested together, by one or of
-- them all.
-- Assumes nothing.
use mathlib.Core.Path.{◌≡◌, refl, sym, ap, ap₂, ◌∙◌}
use mathlib.Core.Bool.{Bool, true, ◌&&◌, and_assoc}
use mathlib.Core.List.{List, [], ◌∷◌, map}
use Prim.Native.Nat.{ℕ, zero, suc, ◌+◌, ◌*◌, ◌-◌, ◌/◌, ◌%◌, ◌^◌, ◌≤◌, ◌<◌}
use native.Mathlib.Nat.{zero-div, zero-mul, min-le_left}
use native.Mathlib.Numerals.{add-one}
use native.Mathlib.Omega.{arith}
use Rattle.std.proofs.Common.{IfSome, slice_get}
use Rattle.std.specs.List.{fold}
use lib.Bits.{bit_or, or_zero_l, or_add_and, and_le_l, and_le_r}
use lib.Dec.{eqb, ltb}
use lib.ListN.{length, get_or, drop, length-take}
use lib.Pow.{shr-shr, shr_lt}
use lib.Seq.{take_all}
use Rattle.algebra.proofs.CountLaws.{and_left, and_right}
use Rattle.galois.specs.Gf16.{gf16}
use Rattle.protocol.specs.Lists.{all_below, part, block_at}
use Rattle.protocol.specs.Strings.{bytes_for, bit, from_bits, spare_zero}
use Rattle.protocol.specs.Setting.{Setting, alphabet_of}
use Rattle.protocol.specs.Key.{rows_spare}
use Rattle.rows.specs.Spare.{bits_spare, narrow}
use Rattle.theorems.proofs.TestLaws.{eqb_same, eqb_eq, ltb_yes, and-true, both_true, bool_iff, all_of, all_congr}
use Rattle.theorems.proofs.ElementLaws.{ltb_lt}
use Rattle.theorems.proofs.ListLaws.{row-end, length-block, block_getD}
use Rattle.theorems.proofs.StringLaws.{bits_of, bits_congr, spare-at}

or-none : (a b : ℕ) → bit_or a b ≡ 0 → (a ≡ 0) × (b ≡ 0)
or-none a b h =
    let e = or_add_and a b in
    (omega (arith, e, and_le_r a b), omega (arith, e, and_le_l a b))

pub or-zero : (a b : ℕ) → eqb (bit_or a b) 0 ≡ (eqb a 0 && eqb b 0)
or-zero a b =
    bool_iff _ _
    (λ h. let (p, q) = or-none a b (eqb_eq (bit_or a b) 0 h) in both_true _ _ (eqb_same a 0 p) (eqb_same b 0 q))
    (λ h. eqb_same (bit_or a b) 0 (ap₂ bit_or (eqb_eq a 0 (and_left (eqb a 0) (eqb b 0) h)) (eqb_eq b 0 (and_right (eqb a 0) (eqb b 0) h)) ∙ or_zero_l 0))

pub all_more : (n : ℕ) (p : ℕ → Bool) → all_below (suc n) p ≡ (all_below n p && p n)
unfolding all_below
all_more zero p = and-true (p 0)
all_more (suc n) p = ap (λ b. p 0 && b) (all_more n (λ i. p (suc i))) ∙ sym (and_assoc (p 0) _ _)

-- ---- what a fold by or has found

-- nothing, where f of each item is 0 and nothing was found before
pub fold-or : {A : Type 0} (f : A → ℕ) (found : ℕ) (items : List A)
    → eqb (fold (λ found x. bit_or found (f x)) found items) 0 ≡ (eqb found 0 && all_below (length items) (λ k. eqb (get_or (map f items) k 0) 0))
unfolding all_below
fold-or f found [] = sym (and-true (eqb found 0))
fold-or f found (x ∷ xs) =
    fold-or f (bit_or found (f x)) xs
    ∙ ap (λ b. b && all_below (length xs) (λ k. eqb (get_or (map f xs) k 0) 0)) (or-zero found (f x))
    ∙ and_assoc (eqb found 0) (eqb (f x) 0) _

pub at-mapped : {A : Type 0} (f : A → ℕ) (Q : ℕ → Type 0) (items : List A) (k : ℕ) → k < length items → IfSome (slice_get items k) (λ x. Q (f x)) → Q (get_or (map f items) k 0)
at-mapped f Q [] k h q = absurd (omega arith)
at-mapped f Q (x ∷ xs) zero h q = q
at-mapped f Q (x ∷ xs) (suc k) h q = at-mapped f Q xs k (omega arith) q

-- ---- one row

zero_bits : (n : ℕ) → from_bits n (λ i. 0) ≡ 0
unfolding from_bits
zero_bits zero = refl
zero_bits (suc n) = omega (arith, zero_bits n)

module _ (row : List ℕ) (L : ℕ) (len : length row ≡ bytes_for L) (part : 1 ≤ L % 8) (byte : get_or row (L / 8) 0 < 256) where
  abbrev high : ℕ
  high = get_or row (L / 8) 0 / 2 ^ (L % 8)

  spare-bit : (i : ℕ) → i < 8 - L % 8 → bit row (L + i) ≡ high / 2 ^ i % 2
  unfolding bit
  spare-bit i h =
      let d : (L + i) / 8 ≡ L / 8 = omega arith in
      let m : (L + i) % 8 ≡ L % 8 + i = omega arith in
      ap₂ (λ a b. get_or row a 0 / 2 ^ b % 2) d m ∙ ap (λ x. x % 2) (sym (shr-shr (get_or row (L / 8) 0) (L % 8) i))

  count : length row * 8 - L ≡ 8 - L % 8
  unfolding bytes_for
  count = omega (arith, len)

  to : spare_zero row L ≡ true → high ≡ 0
  to z =
      let e : 8 - L % 8 + L % 8 ≡ 8 = omega arith in
      sym (bits_of (8 - L % 8) high (shr_lt (8 - L % 8) (L % 8) (rw e byte)))
      ∙ bits_congr (8 - L % 8) _ (λ i. 0) (λ i h. sym (spare-bit i h) ∙ spare-at L row z (L + i) (omega arith) (omega (arith, count)))
      ∙ zero_bits (8 - L % 8)

  from : high ≡ 0 → spare_zero row L ≡ true
  unfolding spare_zero
  from z =
      all_of (length row * 8 - L) _
      (λ i h. eqb_same _ 0 (spare-bit i (omega (arith, count)) ∙ ap (λ x. x / 2 ^ i % 2) z ∙ ap (λ x. x % 2) (zero-div (2 ^ i))))

  pub spare-high : spare_zero row L ≡ eqb high 0
  spare-high = bool_iff _ _ (λ h. eqb_same high 0 (to h)) (λ h. from (eqb_eq high 0 h))

-- ---- rows

block-most : (s : List ℕ) (w i : ℕ) → length (block_at s w i) ≤ w
unfolding block_at part
block-most s w i = omega (arith, length-take w (drop (i * w) s), min-le_left w (length (drop (i * w) s)))

none-spare : (L : ℕ) (row : List ℕ) → L % 8 ≡ 0 → length row ≤ bytes_for L → spare_zero row L ≡ true
unfolding spare_zero all_below bytes_for
none-spare L row h l = let e : length row * 8 - L ≡ 0 = omega arith in rw e

pub whole-bytes : (L rows : ℕ) (s : List ℕ) → L % 8 ≡ 0 → bits_spare L rows s ≡ true
unfolding bits_spare
whole-bytes L rows s h = all_of rows _ (λ i l. none-spare L (block_at s (bytes_for L) i) h (block-most s (bytes_for L) i))

pub one-row : (L : ℕ) (s : List ℕ) → length s ≡ bytes_for L → bits_spare L 1 s ≡ spare_zero s L
unfolding bits_spare all_below block_at part
one-row L s h = rw (zero-mul, take_all (bytes_for L) s (omega arith)) (all_more 0 (λ i. spare_zero s L))

last_lt : (L : ℕ) → 1 ≤ L % 8 → L / 8 < bytes_for L
unfolding bytes_for
last_lt L h = omega arith

last-is : (L i : ℕ) → 1 ≤ L % 8 → i * bytes_for L + L / 8 ≡ i * bytes_for L + bytes_for L - 1
unfolding bytes_for
last-is L i h = omega arith

-- a turn of the loop over the rows
module _ (s : List ℕ) (L rows : ℕ) (len : length s ≡ rows * bytes_for L) (part : 1 ≤ L % 8) (byte : (i : ℕ) → get_or s i 0 < 256) where
  pub row_fits : (i : ℕ) → i < rows → (1 ≤ i * bytes_for L + bytes_for L) × (i * bytes_for L + bytes_for L ≤ length s)
  row_fits i h = (omega (arith, last_lt L part), omega (arith, row-end i rows (bytes_for L) h))

  row-high : (i : ℕ) → i < rows → spare_zero (block_at s (bytes_for L) i) L ≡ eqb (get_or s (i * bytes_for L + bytes_for L - 1) 0 / 2 ^ (L % 8)) 0
  row-high i h =
      let w = bytes_for L in
      let q : L / 8 < w = last_lt L part in
      let e : i * w + L / 8 ≡ i * w + w - 1 = last-is L i part in
      let b : get_or (block_at s w i) (L / 8) 0 ≡ get_or s (i * w + w - 1) 0 = block_getD s w i (L / 8) q ∙ ap (λ k. get_or s k 0) e in
      spare-high (block_at s w i) L (length-block s w i (row_fits i h).1) part (rw b (byte (i * w + w - 1))) ∙ ap (λ x. eqb (x / 2 ^ (L % 8)) 0) b

  pub rows_more : (i found : ℕ) → i < rows → eqb found 0 ≡ bits_spare L i s
      → eqb (bit_or found (get_or s (i * bytes_for L + bytes_for L - 1) 0 / 2 ^ (L % 8))) 0 ≡ bits_spare L (i + 1) s
  unfolding bits_spare
  rows_more i found h e = or-zero found _ ∙ ap₂ ◌&&◌ e (sym (row-high i h)) ∙ rw add-one (sym (all_more i (λ i. spare_zero (block_at s (bytes_for L) i) L)))

pub no_rows : (L : ℕ) (s : List ℕ) → eqb 0 0 ≡ bits_spare L 0 s
unfolding bits_spare all_below
no_rows L s = refl

-- rows of bits, in every setting
pub rows_are : (g : Setting) (L rows : ℕ) (s : List ℕ) {b : Bool} → b ≡ bits_spare L rows s → b ≡ rows_spare (alphabet_of g) L rows s
unfolding bits_spare rows_spare
rows_are g L rows s h = h

-- ---- bytes that are elements of the smaller field

-- the first i bytes are
unfoldable pub narrow_to : ℕ → List ℕ → Bool
narrow_to i s = all_below i (λ k. ltb (get_or s k 0) gf16.base.size)

pub narrow-none : (s : List ℕ) → eqb 0 0 ≡ narrow_to 0 s
unfolding narrow_to all_below
narrow-none s = refl

below_sixteen : (x : ℕ) → eqb (x / 16) 0 ≡ ltb x 16
below_sixteen x = bool_iff _ _ (λ h. let e : x / 16 ≡ 0 = eqb_eq (x / 16) 0 h in ltb_yes x 16 (omega arith)) (λ h. let l : x < 16 = ltb_lt x 16 h in eqb_same (x / 16) 0 (omega arith))

pub narrow_more : (i : ℕ) (s : List ℕ) (found : ℕ) → eqb found 0 ≡ narrow_to i s → eqb (bit_or found (get_or s i 0 / 16)) 0 ≡ narrow_to (i + 1) s
unfolding narrow_to
narrow_more i s found h =
    or-zero found (get_or s i 0 / 16) ∙ ap₂ ◌&&◌ h (below_sixteen (get_or s i 0)) ∙ sym (all_more i (λ k. ltb (get_or s k 0) gf16.base.size))
    ∙ ap (λ n. all_below n (λ k. ltb (get_or s k 0) gf16.base.size)) (sym (add-one i))

-- and all of them are
pub narrow-fold : (s : List ℕ) → eqb (fold (λ found x. bit_or found (x / 16)) 0 s) 0 ≡ narrow s
unfolding narrow
narrow-fold s =
    fold-or (λ x. x / 16) 0 s
    ∙ all_congr (length s) _ _ (λ k h. at-mapped (λ x. x / 16) (λ y. eqb y 0 ≡ ltb (get_or s k 0) 16) s k h (narrow-at s k h))
  where
    narrow-at : (s : List ℕ) (k : ℕ) → k < length s → IfSome (slice_get s k) (λ x. eqb (x / 16) 0 ≡ ltb (get_or s k 0) 16)
    narrow-at [] k h = absurd (omega arith)
    narrow-at (x ∷ s) zero h = below_sixteen x
    narrow-at (x ∷ s) (suc k) h = narrow-at s k (omega arith)
