-- One tree: its leaves among all leaves, and the bits of v from its planes; and the trees one after the other.
--   LanesAre g l n w == lane e of the 8·w coordinates of the table l is g e, for each e below n
-- Assumes nothing.
use Prim.Native.Nat.{ℕ, zero, suc, ◌+◌, ◌*◌, ◌-◌, ◌/◌, ◌%◌, ◌^◌, ◌≤◌, ◌<◌}
use mathlib.Core.Path.{◌≡◌, sym, ap, ◌∙◌}
use mathlib.Core.List.{List, ◌++◌}
use mathlib.Core.Logic.{⊎_elim}
use native.Mathlib.Nat.{mul_assoc, mul-le-mul_right, add-mul, one-mul, div-eq_of_lt, eq-or-lt_of_le, le_of_suc-le-suc}
use native.Mathlib.Decide.{dec_lt}
use native.Mathlib.Numerals.{add-one}
use native.Mathlib.Omega.{arith}
use lib.Dec.{lit<}
use lib.ListN.{replicate, length-replicate, get_or-replicate, length, drop, length-append, length-drop, get_or-append}
use lib.Pow.{pow_mono, pow_pos}
use borrow.Rule.Slice.PartMut.{put_mid}
use Rattle.protocol.specs.Lists.{block_at}
use Rattle.protocol.specs.Strings.{bit}
use Rattle.protocol.specs.Leaves.{place}
use Rattle.theorems.proofs.LeafLaws.{place-below, place-above}
use Rattle.theorems.proofs.StringLaws.{bit_lt, bits_congr, bits_of}
use Rattle.strings.specs.Sums.{byte_at, bit_of, xor_sum}
use Rattle.strings.proofs.Rows.{row-end, row-byte, put_before, put_in}
use Rattle.strings.proofs.BitLaws.{place_other}
use Rattle.strings.proofs.SumLaws.{sum_same, sum_lt}
use Rattle.strings.proofs.Meaning.{bitOf_lt, bitOf_sum, bitOf_zero, bit-times, times-bit, bit_is}
use Rattle.lanes.specs.Lanes.{lanes}
use Rattle.tables.specs.Sums.{planes_byte, NoPlanesFrom, v_byte}
use Rattle.trees.specs.Trees.{TreeFits}

-- the number of leaves of a tree: at most as many as a byte has values, and its bits below the degree are 0
pub leaves-most : (r : ℕ) → r ≤ 8 → 2 ^ r ≤ 256
leaves-most r h = pow_mono h

pub leaves_even : (r p : ℕ) → p < r → bit_of (2 ^ r) p ≡ 0
leaves_even r p h = ap (λ x. bit_of x p) (sym (one-mul (2 ^ r))) ∙ place_other 1 r p (lit< tt) (λ e. omega arith)

pub times_lt : (m j q : ℕ) → j < m → q < 2 → j * q < m
times_lt m j zero h k = omega arith
times_lt m j (suc zero) h k = omega arith
times_lt m j (suc (suc q)) h k = absurd (omega arith)

-- a full tree is one of which no leaf is left out
pub full-fits : (leaves : List ℕ) (w count : ℕ) → length leaves ≡ count * w → TreeFits leaves w count count
full-fits leaves w count long j h other = rw (place-below count j h) (omega (arith, long, row-end j count w h))

pub opened-fits : (tree : List ℕ) (w δ count : ℕ) → δ < count → length tree ≡ (count - 1) * w → TreeFits tree w δ count
opened-fits tree w δ count d long j h other = go (dec_lt j δ)
  where
    go : Dec (j < δ) → place δ j * w + w ≤ length tree
    go (yes lt) = rw (place-below δ j lt) (omega (arith, long, row-end j (count - 1) w (omega arith)))
    go (no ge) = rw (place-above δ j (omega arith)) (omega (arith, long, row-end (j - 1) (count - 1) w (omega arith)))

-- the bits from r on of a number below 2^r
pub high_bit : (x r p : ℕ) → x < 2 ^ r → r ≤ p → bit_of x p ≡ 0
unfolding bit_of
high_bit x r p h le = ap (λ y. y % 2) (div-eq_of_lt (omega (arith, h, pow_mono le)))

-- a byte from its bits, each in the plane of its own, where the planes from r on are 0
pub planes-byte : (planes : List ℕ) (w c x r : ℕ) → c < 8 * w → r ≤ 8 → x < 2 ^ r → ((p : ℕ) → p < r → bit_of (byte_at planes (p * w + c / 8)) (c % 8) ≡ bit_of x p)
    → NoPlanesFrom r w planes → planes_byte planes w c ≡ x
unfolding bit_of
planes-byte planes w c x r h few small is none =
    let l : c / 8 < w = omega arith in
    bits_congr 8 _ (λ p. bit_of x p) (λ p k. bit_is (block_at planes w p) c ∙ ap (λ y. bit_of y (c % 8)) (row-byte planes w p (c / 8) l) ∙ go p k l (dec_lt p r))
    ∙ bits_of 8 x (omega (arith, small, pow_mono few))
  where
    go : (p : ℕ) → p < 8 → c / 8 < w → Dec (p < r) → bit_of (byte_at planes (p * w + c / 8)) (c % 8) ≡ bit_of x p
    go p k l (yes lt) = is p lt
    go p k l (no ge) = ap (λ y. bit_of y (c % 8)) (none p (c / 8) (omega arith) k l) ∙ bitOf_zero (c % 8) ∙ sym (high_bit x r p small (omega arith))

-- a string of zeros
pub none-there : (zeros : List ℕ) (n i : ℕ) → zeros ≡ replicate n 0 → i < length zeros → byte_at zeros i ≡ 0
none-there zeros n i is h = let long : length zeros ≡ n = ap length is ∙ length-replicate n 0 in ap (λ l. byte_at l i) is ∙ get_or-replicate n i 0 0 (omega (arith, long, h))

-- room for eight planes, of which the first r were written apart, and the others cleared
module _ (r w : ℕ) (low old zeros : List ℕ) (few : r ≤ 8) (front : length low ≡ r * w) (room : length old ≡ 8 * w) where
  abbrev joined : List ℕ
  joined = low ++ drop (r * w) old

  abbrev rest : ℕ
  rest = length joined - r * w

  long : length joined ≡ 8 * w
  long = simp (length-append, length-drop) (omega (arith, front, room, mul-le-mul_right w few))

  module _ (same : length zeros ≡ rest) (zero : (i : ℕ) → i < rest → byte_at zeros i ≡ 0) where
    fits : r * w + rest ≤ length joined
    fits = omega (arith, long, mul-le-mul_right w few)

    pub planes-kept : (p b : ℕ) → p < r → b < w → byte_at (put_mid (r * w) rest joined zeros) (p * w + b) ≡ byte_at low (p * w + b)
    planes-kept p b h l =
        let in-front : p * w + b < r * w = omega (arith, row-end p r w h) in
        put_before (r * w) rest joined zeros fits same (p * w + b) in-front ∙ get_or-append low (drop (r * w) old) 0 (p * w + b) (omega (arith, front, in-front))

    pub planes-none : NoPlanesFrom r w (put_mid (r * w) rest joined zeros)
    planes-none p b low high l =
        let place : p * w + b ≡ r * w + (p * w + b - r * w) = omega (arith, mul-le-mul_right w low) in
        let inside : p * w + b - r * w < rest = omega (arith, long, mul-le-mul_right w low, row-end p 8 w high) in
        rw place (put_in (r * w) rest joined zeros fits same (p * w + b - r * w) inside ∙ zero (p * w + b - r * w) inside)

abbrev pub LanesAre : (ℕ → ℕ → ℕ) → List ℕ → ℕ → ℕ → Type 0
LanesAre g l n w = (e c : ℕ) → e < n → c < 8 * w → byte_at l (c * lanes + e) ≡ g e c

-- the lanes below e are done, and now lane e
pub lanes_more : (g : ℕ → ℕ → ℕ) (w e : ℕ) (l l' : List ℕ) → e < lanes → LanesAre g l e w → ((c : ℕ) → c < 8 * w → byte_at l' (c * lanes + e) ≡ g e c)
    → ((c q : ℕ) → q < lanes → (q ≡ e → ⊥) → byte_at l' (c * lanes + q) ≡ byte_at l (c * lanes + q)) → LanesAre g l' (e + 1) w
lanes_more g w e l l' el done lane others q c h k =
    ⊎_elim (λ (eq : q ≡ e). rw eq (lane c k)) (λ (lt : q < e). others c q (omega arith) (λ x. omega arith) ∙ done q c lt k) (eq-or-lt_of_le (le_of_suc-le-suc (rw add-one at h)))

-- leaf j of tree e, among all leaves
module _ (leaves : List ℕ) (count w e j : ℕ) (h : j < count) where
  tree-byte : (b : ℕ) → b < w → byte_at (block_at leaves (count * w) e) (j * w + b) ≡ byte_at leaves ((e * count + j) * w + b)
  tree-byte b l =
      let place : e * (count * w) + (j * w + b) ≡ (e * count + j) * w + b = omega (arith, mul_assoc e count w, add-mul (e * count) j w) in
      row-byte leaves (count * w) e (j * w + b) (omega (arith, row-end j count w h)) ∙ ap (byte_at leaves) place

  pub tree-bit : (c : ℕ) → c < 8 * w → bit (block_at (block_at leaves (count * w) e) w j) c ≡ bit (block_at leaves w (e * count + j)) c
  tree-bit c k =
      let l : c / 8 < w = omega arith in
      bit_is (block_at (block_at leaves (count * w) e) w j) c
      ∙ ap (λ y. bit_of y (c % 8)) (row-byte (block_at leaves (count * w) e) w j (c / 8) l ∙ tree-byte (c / 8) l ∙ sym (row-byte leaves w (e * count + j) (c / 8) l))
      ∙ sym (bit_is (block_at leaves w (e * count + j)) c)

module _ (tree : List ℕ) (w r : ℕ) where
  v_lt : (c : ℕ) → v_byte tree (2 ^ r) w c < 2 ^ r
  v_lt c = sum_lt r (2 ^ r) _ (pow_pos r) (λ j h. times_lt (2 ^ r) j (bit (block_at tree w j) c) h (bit_lt (block_at tree w j) c))

  -- bit p of coordinate c of v is coordinate c of plane p
  plane_bit : (p c : ℕ) → c < 8 * w → bit_of (xor_sum (2 ^ r) (λ j. bit_of j p * byte_at tree (j * w + c / 8))) (c % 8) ≡ bit_of (v_byte tree (2 ^ r) w c) p
  plane_bit p c h =
      let l : c / 8 < w = omega arith in
      bitOf_sum (2 ^ r) _ (c % 8)
      ∙ sum_same (2 ^ r) _ _ (λ j k.
      bit-times (bit_of j p) _ (c % 8) (bitOf_lt j p)
      ∙ ap (λ y. bit_of j p * bit_of y (c % 8)) (sym (row-byte tree w j (c / 8) l))
      ∙ ap (λ y. bit_of j p * y) (sym (bit_is (block_at tree w j) c))
      ∙ sym (times-bit (bit (block_at tree w j) c) j p (bit_lt (block_at tree w j) c)))
      ∙ sym (bitOf_sum (2 ^ r) (λ j. j * bit (block_at tree w j) c) p)

  pub tree_v : (planes : List ℕ) → r ≤ 8 → ((p b : ℕ) → p < r → b < w → byte_at planes (p * w + b) ≡ xor_sum (2 ^ r) (λ j. bit_of j p * byte_at tree (j * w + b)))
      → NoPlanesFrom r w planes → (c : ℕ) → c < 8 * w → planes_byte planes w c ≡ v_byte tree (2 ^ r) w c
  tree_v planes few is none c h =
      let l : c / 8 < w = omega arith in
      planes-byte planes w c (v_byte tree (2 ^ r) w c) r h few (v_lt c) (λ p k. ap (λ y. bit_of y (c % 8)) (is p (c / 8) k l) ∙ plane_bit p c h) none
