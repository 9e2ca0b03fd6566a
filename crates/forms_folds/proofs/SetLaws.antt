-- Laws of a set of panels: sixteen rows that are made and put, the rows of a matrix, and the matrices.
-- Assumes nothing.
use mathlib.Core.Path.{◌≡◌, sym, ap, ap₂, ◌∙◌}
use mathlib.Core.Bool.{cond}
use mathlib.Core.List.{List, ◌++◌}
use mathlib.Core.Logic.{⊎_elim}
use Prim.Native.Nat.{ℕ, ◌+◌, ◌*◌, ◌-◌, ◌/◌, ◌%◌, ◌≤◌, ◌<◌}
use native.Mathlib.Nat.{eq-or-lt_of_le, le_of_suc-le-suc, add-mul, mul-add, mul_assoc, mul-le-mul, mul-le-mul_right}
use native.Mathlib.Decide.{dec_lt}
use native.Mathlib.Numerals.{add-one}
use native.Mathlib.Omega.{arith}
use lib.Bits.{bit_xor}
use lib.Dec.{ltb}
use lib.ListN.{length, take, drop}
use lib.Seq.{get_or-drop}
use borrow.Rule.Slice.PartMut.{put_mid}
use Rattle.protocol.specs.Strings.{bytes_for}
use Rattle.protocol.specs.Lists.{block_at}
use Rattle.theorems.proofs.TestLaws.{ltb_yes, ltb_no}
use Rattle.strings.specs.Sums.{byte_at, bit_of}
use Rattle.strings.proofs.Meaning.{bitOf_xor}
use Rattle.strings.proofs.Rows.{row-end}
use Rattle.chunks.specs.Chunks.{chunk, cell_at, most_block}
use Rattle.forms_folds.specs.Folds.{entry, folded_bit, before, height, most_panels, most_sides, most_matrix, Folded, FoldedSet}
use Rattle.forms_folds.specs.Sets.{Mirrors, Parted, summed, chunk_place, Put, ChunksKept, OthersKept, ChunkFolded, SetFolded, MatrixFolded, trailing}
use Rattle.forms_folds.proofs.ArrayLaws.{in-first, in_last}
use Rattle.forms_folds.proofs.PlaceLaws.{in_height, beside_rows, beside_panel, beside_matrix}

-- what holds below n, and of n, holds below n + 1
pub below_next : (P : ℕ → Type 0) (n : ℕ) → P n → ((k : ℕ) → k < n → P k) → (k : ℕ) → k < n + 1 → P k
below_next P n own done k h = ⊎_elim (λ (e : k ≡ n). rw e own) (λ (lt : k < n). done k lt) (eq-or-lt_of_le (le_of_suc-le-suc (rw add-one at h)))

-- ---- sixteen rows

-- eight bytes of each row, taken in two halves, and parted
pub parted : (w from first q : ℕ) (src low rest high made : List ℕ) → length low ≡ 64 → length rest ≡ 64 → length high ≡ length (take 64 (drop 64 (low ++ rest)))
    → ((z f : ℕ) → z < 8 → f < 8 → byte_at low (z * 8 + f) ≡ byte_at src (from + q * 16 * w + 2 * first + z * w + f))
    → ((z f : ℕ) → z < 8 → f < 8 → byte_at high (z * 8 + f) ≡ byte_at src (from + q * 16 * w + 2 * first + 8 * w + z * w + f))
    → ((i : ℕ) → i < 128 → byte_at made i ≡ byte_at (put_mid 64 64 (low ++ rest) high) (i % 16 * 8 + i / 16))
    → Parted w (drop from src) first q made
parted w from first q src low rest high made half old kept taken taken' part k f hk hf =
    let left : (k * 16 + f) % 16 ≡ f = omega arith in
    let right : (k * 16 + f) / 16 ≡ k = omega arith in
    let at : (k * 16 + f) % 16 * 8 + (k * 16 + f) / 16 ≡ f * 8 + k = rw (left, right) in
    part (k * 16 + f) (omega arith) ∙ ap (byte_at rows) at ∙ go (dec_lt f 8) ∙ sym (get_or-drop from src ((q * 16 + f) * w + (2 * first + k)) 0)
  where
    rows : List ℕ
    rows = put_mid 64 64 (low ++ rest) high

    go : Dec (f < 8) → byte_at rows (f * 8 + k) ≡ byte_at src (from + ((q * 16 + f) * w + (2 * first + k)))
    go (yes lt) =
        let byte : from + q * 16 * w + 2 * first + f * w + k ≡ from + ((q * 16 + f) * w + (2 * first + k)) = omega (arith, add-mul (q * 16) f w) in
        in-first low rest high half old kept (f * 8 + k) (omega arith) ∙ taken f k lt hk ∙ ap (byte_at src) byte
    go (no ge) =
        let row : f * 8 + k ≡ 64 + ((f - 8) * 8 + k) = omega arith in
        let whole : f ≡ 8 + (f - 8) = omega arith in
        let byte : from + q * 16 * w + 2 * first + 8 * w + (f - 8) * w + k ≡ from + ((q * 16 + f) * w + (2 * first + k)) = omega (arith, add-mul (q * 16) f w, ap (λ x. x * w) whole, add-mul 8 (f - 8) w) in
        ap (byte_at rows) row ∙ in_last low rest high half old kept ((f - 8) * 8 + k) (omega arith) ∙ taken' (f - 8) k (omega arith) hk ∙ ap (byte_at src) byte

module _ (first p end count q m i : ℕ) (made t cells cells' : List ℕ) (inside : i < m) (few : q < count)
    (row : q ≤ first + p → first + p < end → (e : ℕ) → e < chunk → cell_at cells' (chunk_place first count p q m i) e ≡ summed made t q p e)
    (others : (at e : ℕ) → (q ≤ first + p → at ≡ chunk_place first count p q m i → ⊥) → e < chunk → cell_at cells' at e ≡ cell_at cells at e) where
  pub put_more : Put first end count q m i p made t cells → Put first end count q m i (p + 1) made t cells'
  put_more done x e hx hq hend he =
      below_next (λ x. q ≤ first + x → first + x < end → cell_at cells' (chunk_place first count x q m i) e ≡ summed made t q x e) p (λ k l. row k l e he)
      (λ x lt k l. others (chunk_place first count x q m i) e (λ _. beside_panel m i inside first count p x q lt few k) he ∙ done x e lt k l he)
      x hx hq hend

  pub chunks_more : (old : List ℕ) → ChunksKept first count q m i p old cells → ChunksKept first count q m i (p + 1) old cells'
  chunks_more old done at e beside he = others at e (beside p (omega arith)) he ∙ done at e (λ x hx. beside x (omega arith)) he

-- a byte x of column C, and what is added to it
folded-bit : (w C r z x y : ℕ) (M : List ℕ) → z < 8 → x ≡ byte_at M (r * w + C) → bit_of y z ≡ cond (ltb (r / 16) (C / 2)) (entry w M (C * 8 + z) r) 0
    → bit_of (bit_xor x y) z ≡ folded_bit w M r (C * 8 + z)
unfolding folded_bit
folded-bit w C r z x y M hz own added =
    let byte : C ≡ (C * 8 + z) / 8 = omega arith in
    let place : z ≡ (C * 8 + z) % 8 = omega arith in
    let panel : C / 2 ≡ (C * 8 + z) / 16 = omega arith in
    bitOf_xor x y z
    ∙ ap₂ bit_xor (ap (λ k. bit_of k z) own ∙ ap₂ (λ b p. bit_of (byte_at M (r * w + b)) p) byte place) (added ∙ ap (λ J. cond (ltb (r / 16) J) (entry w M (C * 8 + z) r) 0) panel)

-- what was put, of what was made
pub chunk-folded : (w first end count q m i : ℕ) (M t made cells : List ℕ) → Mirrors w M first end count t → q < count → Parted w M first q made → Put first end count q m i 4 made t cells
    → (p : ℕ) → p < 4 → q ≤ first + p → first + p < end → ChunkFolded w M (first + p) q cells (chunk_place first count p q m i)
chunk-folded w first end count q m i M t made cells mirrors few parts put p hp hq hend h f z hh hw hf hz =
    let k = 2 * p + h in
    let r = q * 16 + f in
    let at : p * chunk + (h * 16 + f) ≡ k * 16 + f = omega arith in
    let row : (2 * p + (h * 16 + f) / 16) * 160 + (q * 16 + (h * 16 + f) % 16) ≡ k * 160 + r = omega arith in
    let column : (2 * first + k) * 8 + z ≡ (first + p) * 16 + (h * 8 + z) = omega arith in
    ap (λ x. bit_of x z) (put p (h * 16 + f) hp hq hend (omega arith) ∙ ap₂ (λ x y. bit_xor (byte_at made x) (byte_at t y)) at row)
    ∙ folded-bit w (2 * first + k) r z (byte_at made (k * 16 + f)) (byte_at t (k * 160 + r)) M hz (parts k f (omega arith) hf) (mirrors k (omega arith) (omega arith) r z (omega arith) (omega arith) hz)
    ∙ ap (folded_bit w M r) column

-- ---- the rows of a matrix

module _ (w first end count m i q : ℕ) (M cells cells' : List ℕ) (inside : i < m) (few : q < count) (kept : ChunksKept first count q m i 4 cells cells') where
  pub set_more : ((p : ℕ) → p < 4 → q ≤ first + p → first + p < end → ChunkFolded w M (first + p) q cells' (chunk_place first count p q m i))
      → SetFolded w M first end count m i q cells → SetFolded w M first end count m i (q + 1) cells'
  set_more own done x p hx =
      below_next (λ x. p < 4 → x ≤ first + p → first + p < end → ChunkFolded w M (first + p) x cells' (chunk_place first count p x m i)) q (own p)
      (λ x lt hp hq hend h f z hh hw hf hz.
      ap (λ b. bit_of b z) (kept (chunk_place first count p x m i) (h * 16 + f) (beside_rows m i inside first count p x q lt few hq) (omega arith)) ∙ done x p lt hp hq hend h f z hh hw hf hz)
      x hx

  pub kept_more : (old : List ℕ) → OthersKept m i old cells → OthersKept m i old cells'
  kept_more old done Q x e hx other he = kept (Q * m + x) e (beside_matrix m i inside first count q 4 Q x hx other) he ∙ done Q x e hx other he

-- ---- the matrices

-- the bytes of a matrix, of its rows up to a whole sixteen, and where the trailing matrix begins
pub size : (n w top end : ℕ) → w ≡ bytes_for n → n ≤ most_sides → top * 16 < n → top + end ≤ most_panels
    → (n * w ≤ most_matrix) × (end * 16 * w ≤ most_matrix) × (trailing w top ≤ n * w) × (w ≤ 2 * most_panels)
unfolding bytes_for
size n w top end wide few inside most =
    let bytes : w ≤ 2 * most_panels = omega arith in
    let rows : end * 16 ≤ most_sides = omega arith in
    let above : top * 16 + 1 ≤ n = omega arith in
    let split : top * (16 * w + 2) ≡ top * 16 * w + top * 2 = mul-add top (16 * w) 2 ∙ ap (λ x. x + top * 2) (sym (mul_assoc top 16 w)) in
    (mul-le-mul few bytes, mul-le-mul rows bytes, omega (arith, split, mul-le-mul_right w above, add-mul (top * 16) 1 w), bytes)

-- the matrices of a section, before the i-th and all of them
pub section : (m i s : ℕ) → i < m → m ≤ most_block → s ≤ most_matrix → (i * s + s ≤ m * s) × (m * s ≤ most_block * most_matrix)
section m i s inside few small = (row-end i m s inside, mul-le-mul few small)

-- a column below n stands in a byte of the row
column-byte : (n w c : ℕ) → w ≡ bytes_for n → c < n → c / 8 < w
unfolding bytes_for
column-byte n w c wide h = omega arith

-- a string that agrees with a matrix from entry (16·top, 16·top) on has its entries from there
module _ (n w top : ℕ) (S M : List ℕ) (wide : w ≡ bytes_for n) (same : (k : ℕ) → trailing w top + k < n * w → byte_at S k ≡ byte_at M (trailing w top + k)) where
  entry-same : (ρ c : ℕ) → top * 16 + ρ < n → top * 16 + c < n → entry w S ρ c ≡ entry w M (top * 16 + ρ) (top * 16 + c)
  entry-same ρ c hρ hc =
      let split : top * (16 * w + 2) ≡ top * 16 * w + top * 2 = mul-add top (16 * w) 2 ∙ ap (λ x. x + top * 2) (sym (mul_assoc top 16 w)) in
      let at : top * (16 * w + 2) + (ρ * w + c / 8) ≡ (top * 16 + ρ) * w + (top * 16 + c) / 8 = omega (arith, split, add-mul (top * 16) ρ w) in
      let bit : c % 8 ≡ (top * 16 + c) % 8 = omega arith in
      ap (λ b. bit_of b (c % 8)) (same (ρ * w + c / 8) (omega (arith, at, row-end (top * 16 + ρ) n w hρ, column-byte n w (top * 16 + c) wide hc)))
      ∙ ap₂ (λ x p. bit_of (byte_at M x) p) at bit

  pub folded-same : (ρ c : ℕ) → top * 16 + ρ < n → top * 16 + c < n → folded_bit w S ρ c ≡ folded_bit w M (top * 16 + ρ) (top * 16 + c)
  unfolding folded_bit
  folded-same ρ c hρ hc =
      let rows : (top * 16 + ρ) / 16 ≡ top + ρ / 16 = omega arith in
      let cols : (top * 16 + c) / 16 ≡ top + c / 16 = omega arith in
      ap₂ bit_xor (entry-same ρ c hρ hc) (ap (λ x. cond (ltb (ρ / 16) (c / 16)) x 0) (entry-same c ρ hc hρ)
      ∙ ap (λ b. cond b (entry w M (top * 16 + c) (top * 16 + ρ)) 0) (shifted (dec_lt (ρ / 16) (c / 16)) rows cols))
    where
      shifted : Dec (ρ / 16 < c / 16) → (top * 16 + ρ) / 16 ≡ top + ρ / 16 → (top * 16 + c) / 16 ≡ top + c / 16 → ltb (ρ / 16) (c / 16) ≡ ltb ((top * 16 + ρ) / 16) ((top * 16 + c) / 16)
      shifted (yes lt) r k = ltb_yes (ρ / 16) (c / 16) lt ∙ sym (ltb_yes ((top * 16 + ρ) / 16) ((top * 16 + c) / 16) (omega arith))
      shifted (no ge) r k = ltb_no (ρ / 16) (c / 16) (omega arith) ∙ sym (ltb_no ((top * 16 + ρ) / 16) ((top * 16 + c) / 16) (omega arith))

  pub matrix-folded : (first end count m i : ℕ) (cells : List ℕ) → ((p : ℕ) → p < 4 → (top + (first + p)) * 16 < n → first + p < end) → SetFolded w S first end count m i count cells
      → MatrixFolded n w M top first count m i cells
  matrix-folded first end count m i cells ends done p q h f z hp hq above hh hf hz hr hc =
      let inside : first + p < end = ends p hp (omega arith) in
      let row : top * 16 + (q * 16 + f) ≡ (top + q) * 16 + f = omega arith in
      let col : top * 16 + ((first + p) * 16 + (h * 8 + z)) ≡ (top + (first + p)) * 16 + (h * 8 + z) = omega arith in
      let byte : 2 * (first + p) + h < w = omega (arith, column-byte n w ((top + (first + p)) * 16 + (h * 8 + z)) wide hc) in
      done q p hq hp above inside h f z hh byte hf hz ∙ folded-same (q * 16 + f) ((first + p) * 16 + (h * 8 + z)) (omega arith) (omega arith) ∙ ap₂ (folded_bit w M) row col

pub matrix_more : (n w top first count m k : ℕ) (a cells cells' : List ℕ) → k < m → MatrixFolded n w (block_at a (n * w) k) top first count m k cells' → OthersKept m k cells cells'
    → ((i : ℕ) → i < k → MatrixFolded n w (block_at a (n * w) i) top first count m i cells) → (i : ℕ) → i < k + 1 → MatrixFolded n w (block_at a (n * w) i) top first count m i cells'
matrix_more n w top first count m k a cells cells' inside own kept done =
    below_next (λ i. MatrixFolded n w (block_at a (n * w) i) top first count m i cells') k own
    (λ i lt p q h f z hp hq above hh hf hz hr hc.
    ap (λ b. bit_of b z) (kept (before first count p + q) i (h * 16 + f) (omega arith) (λ e. omega arith) (omega arith)) ∙ done i lt p q h f z hp hq above hh hf hz hr hc)

-- ---- a panel of a piece

pub panel_folded : (n w m top first count p b t : ℕ) (A cells r : List ℕ) → p < 4 → b ≡ before first count p → t ≡ height first count p → ((k : ℕ) → k < t * m * chunk → byte_at r k ≡ byte_at cells (b * m * chunk + k))
    → FoldedSet n w m A top first count cells → Folded n w m A top (first + p) count r
panel_folded n w m top first count p b t A cells r few begin tall part set q i h f z hq above hi hh hf hz hr hc =
    let inside : (q * m + i) * chunk + (h * 16 + f) < t * m * chunk = omega (arith, row-end q t m (omega (arith, tall, in_height first count p q hq above))) in
    let at : b * m * chunk + ((q * m + i) * chunk + (h * 16 + f)) ≡ ((b + q) * m + i) * chunk + (h * 16 + f) = omega (arith, add-mul b q m) in
    ap (λ x. bit_of x z) (part ((q * m + i) * chunk + (h * 16 + f)) inside ∙ ap (byte_at cells) at ∙ ap (λ x. byte_at cells (((x + q) * m + i) * chunk + (h * 16 + f))) begin)
    ∙ set p q i h f z few hq above hi hh hf hz hr hc
