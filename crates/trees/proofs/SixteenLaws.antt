-- Sums of sixteen bytes at a time: which bits of a number change when it is counted up, and loops over a part of a
-- string.
--   PlanesFrom g l r w at k == sixteen bytes of each of r planes that is among the last k of eight, from `at` on, are g
--   Changed g l₀ l at n == the n bytes of l from `at` on are those of l₀, byte k of them changed by g k, and the others
--     are as in l₀
-- Assumes nothing.
use Prim.Native.Nat.{ℕ, zero, suc, ◌+◌, ◌*◌, ◌-◌, ◌/◌, ◌%◌, ◌≤◌, ◌<◌}
use mathlib.Core.Path.{◌≡◌, refl, sym, ap, ◌∙◌}
use mathlib.Core.Bool.{cond}
use mathlib.Core.List.{List}
use mathlib.Core.Logic.{◌⊎◌, inl, inr, ⊎_elim}
use native.Mathlib.Nat.{eq-or-lt_of_le, le_of_suc-le-suc}
use native.Mathlib.Decide.{dec_lt, ℕ_discrete}
use native.Mathlib.Numerals.{add-one}
use native.Mathlib.Omega.{arith}
use lib.Bits.{bit_xor, xor_self, xor_shr, xor_mod}
use lib.Count.{count_trailing_zeros, under}
use lib.Dec.{ltb}
use lib.ListN.{length, set}
use lib.Seq.{get_or-set_same, get_or-set_other}
use Rattle.theorems.proofs.TestLaws.{ltb_yes, ltb_no}
use Rattle.strings.specs.Sums.{byte_at, bit_of, xor_sum}
use Rattle.strings.specs.Rows.{RowAdded, RowsKept}
use Rattle.strings.proofs.Rows.{row-end}
use Rattle.strings.proofs.Meaning.{bitOf_zero}
use Rattle.strings.proofs.SumLaws.{sum_put}
use Rattle.strings.proofs.ProductLaws.{bit-first, bit-next}
use Rattle.trees.specs.Trees.{Summed}
use Rattle.trees.specs.Partial.{held_plane}

-- ---- bits that change

-- the bits in which j and j + 1 differ
abbrev pub differing : ℕ → ℕ → ℕ
differing j p = bit_of (bit_xor j (j + 1)) p

pub first-differs : (j : ℕ) → differing j 0 ≡ 1
first-differs j = bit-first (bit_xor j (j + 1)) ∙ xor_mod j (j + 1) 1 ∙ two (j % 2) ((j + 1) % 2) (omega arith) (omega arith)
  where
    two : (a b : ℕ) → a < 2 → b ≡ 1 - a → bit_xor a b ≡ 1
    two zero b h e = e
    two (suc zero) b h e = ap (bit_xor 1) e
    two (suc (suc a)) b h e = absurd (omega arith)

pub even_rest : (j p : ℕ) → j % 2 ≡ 0 → differing j (suc p) ≡ 0
even_rest j p even =
    let same : (j + 1) / 2 ≡ j / 2 = omega arith in
    bit-next (bit_xor j (j + 1)) p ∙ ap (λ y. bit_of y p) (xor_shr j (j + 1) 1 ∙ ap (bit_xor (j / 2)) same ∙ xor_self (j / 2)) ∙ bitOf_zero p

pub odd_rest : (j p : ℕ) → j % 2 ≡ 1 → differing j (suc p) ≡ differing (j / 2) p
odd_rest j p odd =
    let next : (j + 1) / 2 ≡ j / 2 + 1 = omega arith in
    bit-next (bit_xor j (j + 1)) p ∙ ap (λ y. bit_of y p) (xor_shr j (j + 1) 1 ∙ ap (bit_xor (j / 2)) next)

zeros_even : (n j : ℕ) → j % 2 ≡ 0 → count_trailing_zeros (suc n) (j + 1) ≡ 0
unfolding count_trailing_zeros
zeros_even n j even =
    let odd : (j + 1) % 2 ≡ 1 = omega arith in
    ap (λ d. under d (count_trailing_zeros n ((j + 1) / 2))) odd

zeros_odd : (n j : ℕ) → j % 2 ≡ 1 → count_trailing_zeros (suc n) (j + 1) ≡ suc (count_trailing_zeros n (j / 2 + 1))
unfolding count_trailing_zeros
zeros_odd n j odd =
    let even : (j + 1) % 2 ≡ 0 = omega arith in
    let next : (j + 1) / 2 ≡ j / 2 + 1 = omega arith in
    ap (λ d. under d (count_trailing_zeros n ((j + 1) / 2))) even ∙ ap (λ y. suc (count_trailing_zeros n y)) next

parity : (j : ℕ) → (j % 2 ≡ 0) ⊎ (j % 2 ≡ 1)
parity j = two (j % 2) (omega arith)
  where
    two : (a : ℕ) → a < 2 → (a ≡ 0) ⊎ (a ≡ 1)
    two zero h = inl refl
    two (suc zero) h = inr refl
    two (suc (suc a)) h = absurd (omega arith)

-- up to the zeros at the end of j + 1 the bits change
pub bit_changes : (n j p : ℕ) → p < n → p ≤ count_trailing_zeros n (j + 1) → differing j p ≡ 1
bit_changes zero j p h l = absurd (omega arith)
bit_changes (suc n) j zero h l = first-differs j
bit_changes (suc n) j (suc p) h l =
    ⊎_elim
    (λ (even : j % 2 ≡ 0). absurd (omega (arith, zeros_even n j even)))
    (λ (odd : j % 2 ≡ 1). odd_rest j p odd ∙ bit_changes n (j / 2) p (omega arith) (omega (arith, zeros_odd n j odd)))
    (parity j)

-- and past them they do not
pub bit_stays : (n j p : ℕ) → p < n → count_trailing_zeros n (j + 1) < p → differing j p ≡ 0
bit_stays zero j p h l = absurd (omega arith)
bit_stays (suc n) j zero h l = absurd (omega arith)
bit_stays (suc n) j (suc p) h l =
    ⊎_elim
    (λ (even : j % 2 ≡ 0). even_rest j p even)
    (λ (odd : j % 2 ≡ 1). odd_rest j p odd ∙ bit_stays n (j / 2) p (omega arith) (omega (arith, zeros_odd n j odd)))
    (parity j)

-- the planes below r whose bit changes, by the row that takes the running sum for them
pub row_takes : (n j r p : ℕ) → p < r → r ≤ n → differing j p ≡ cond (ltb (r - count_trailing_zeros n (j + 1)) (r + 1 - p)) 1 0
row_takes n j r p h k = go (dec_lt (count_trailing_zeros n (j + 1)) p)
  where
    go : Dec (count_trailing_zeros n (j + 1) < p) → differing j p ≡ cond (ltb (r - count_trailing_zeros n (j + 1)) (r + 1 - p)) 1 0
    go (yes lt) = bit_stays n j p (omega arith) lt ∙ sym (ap (λ b. cond b 1 0) (ltb_no (r - count_trailing_zeros n (j + 1)) (r + 1 - p) (omega arith)))
    go (no ge) = bit_changes n j p (omega arith) (omega arith) ∙ sym (ap (λ b. cond b 1 0) (ltb_yes (r - count_trailing_zeros n (j + 1)) (r + 1 - p) (omega arith)))

-- what the held rows add up to in plane p, after x was added to row k; q says whether the plane takes that row
pub held_put : (held held' : List ℕ) (r k p b x q : ℕ) → q ≡ cond (ltb k (r + 1 - p)) 1 0 → byte_at held' (k * 16 + b) ≡ bit_xor (byte_at held (k * 16 + b)) x
    → ((i : ℕ) → (i ≡ k → ⊥) → byte_at held' (i * 16 + b) ≡ byte_at held (i * 16 + b)) → held_plane held' r p b ≡ bit_xor (held_plane held r p b) (q * x)
held_put held held' r k p b x q takes here others =
    sum_put (r + 1 - p) k x (λ i. byte_at held (i * 16 + b)) (λ i. byte_at held' (i * 16 + b)) here others ∙ ap (λ y. bit_xor (held_plane held r p b) (y * x)) (sym takes)

-- the same of a whole row that is added
pub held_put_row : (held held' row : List ℕ) (r k p b q : ℕ) → length row ≡ 16 → b < 16 → q ≡ cond (ltb k (r + 1 - p)) 1 0 → RowAdded (length row) k row held held' → RowsKept (length row) k held held'
    → held_plane held' r p b ≡ bit_xor (held_plane held r p b) (q * byte_at row b)
held_put_row held held' row r k p b q long hb takes here others =
    let added = rw long at here in
    let left = rw long at others in
    held_put held held' r k p b (byte_at row b) q takes (added b hb) (λ i other. left i b other hb)

-- ---- a part of a string, changed byte by byte

abbrev pub Changed : (ℕ → ℕ → ℕ) → List ℕ → List ℕ → ℕ → ℕ → Type 0
Changed g l₀ l at n = ((k : ℕ) → k < n → byte_at l (at + k) ≡ g k (byte_at l₀ (at + k))) × ((i : ℕ) → (at ≤ i → i < at + n → ⊥) → byte_at l i ≡ byte_at l₀ i)

pub changed-none : (g : ℕ → ℕ → ℕ) (l : List ℕ) (at : ℕ) → Changed g l l at 0
changed-none g l at = (λ k h. absurd (omega arith), λ i h. refl)

pub changed-next : (g : ℕ → ℕ → ℕ) (l₀ l : List ℕ) (at n v : ℕ) → at + n < length l → v ≡ g n (byte_at l (at + n)) → Changed g l₀ l at n → Changed g l₀ (set l (at + n) v) at (n + 1)
changed-next g l₀ l at n v fits is done = (
  (λ k h.
      ⊎_elim
      (λ (e : k ≡ n). rw e (get_or-set_same l (at + n) v 0 fits ∙ is ∙ ap (g n) (done.1 (at + n) (λ a b. omega arith))))
      (λ (lt : k < n). get_or-set_other l (at + n) (at + k) v 0 (λ e. omega arith) ∙ done.0 k lt)
      (eq-or-lt_of_le (le_of_suc-le-suc (rw add-one at h)))),
  (λ i h. get_or-set_other l (at + n) i v 0 (λ e. h (omega arith) (omega arith)) ∙ done.1 i (λ a b. h a (omega arith))),
)

-- sixteen bytes of row q, from `at` on, and a byte of another row, or of those before
pub row_apart : (q p w at b : ℕ) → at + 16 ≤ w → b < w → (p ≡ q → b < at) → q * w + at ≤ p * w + b → p * w + b < q * w + at + 16 → ⊥
row_apart q p w at b fits hb before low high = go (dec_lt p q) (dec_lt q p)
  where
    go : Dec (p < q) → Dec (q < p) → ⊥
    go (yes lt) d = omega (arith, row-end p q w lt)
    go (no ge) (yes lt) = omega (arith, row-end q p w lt)
    go (no ge) (no le) =
        let same : p ≡ q = omega arith in
        omega (arith, before same, ap (λ n. n * w) same)

abbrev pub PlanesFrom : (ℕ → ℕ → ℕ) → List ℕ → ℕ → ℕ → ℕ → ℕ → Type 0
PlanesFrom g l r w at k = (p b : ℕ) → p < r → 8 ≤ p + k → b < 16 → byte_at l (p * w + (at + b)) ≡ g p b

-- the last k planes are done, and now the one before them, where it is one of the r
pub planes_more : (g : ℕ → ℕ → ℕ) (l l' : List ℕ) (r w at k : ℕ) → k < 8 → at + 16 ≤ w
    → (8 - (k + 1) < r → (b : ℕ) → b < 16 → byte_at l' ((8 - (k + 1)) * w + at + b) ≡ g (8 - (k + 1)) b)
    → ((i : ℕ) → ((8 - (k + 1)) * w + at ≤ i → i < (8 - (k + 1)) * w + at + 16 → ⊥) → byte_at l' i ≡ byte_at l i)
    → PlanesFrom g l r w at k → PlanesFrom g l' r w at (k + 1)
planes_more g l l' r w at k hk fits row others done p b hp le hb = go (ℕ_discrete p (8 - (k + 1)))
  where
    go : Dec (p ≡ 8 - (k + 1)) → byte_at l' (p * w + (at + b)) ≡ g p b
    go (yes e) =
        let place : (8 - (k + 1)) * w + (at + b) ≡ (8 - (k + 1)) * w + at + b = omega arith in
        rw e (ap (byte_at l') place ∙ row (omega arith) b hb)
    go (no ne) = others (p * w + (at + b)) (row_apart (8 - (k + 1)) p w at (at + b) fits (omega arith) (λ e. absurd (ne e))) ∙ done p b hp (omega arith) hb

-- what holds below `at`, and of sixteen from there on
below_sixteen : (P : ℕ → Type 0) (at : ℕ) → ((b : ℕ) → b < at → P b) → ((b : ℕ) → b < 16 → P (at + b)) → (b : ℕ) → b < at + 16 → P b
below_sixteen P at before here b h = go (dec_lt b at)
  where
    go : Dec (b < at) → P b
    go (yes lt) = before b lt
    go (no ge) = let e : at + (b - at) ≡ b = omega arith in rw e at (here (b - at) (omega arith))

-- sixteen bytes more are summed, and those before are left
pub summed_more : (f : ℕ → ℕ → ℕ) (count r w : ℕ) (u u' planes planes' : List ℕ) (at n : ℕ) → at ≤ n → Summed f count r w u planes n
    → ((b : ℕ) → b < 16 → byte_at u' (at + b) ≡ xor_sum count (λ j. f j (at + b))) → ((b : ℕ) → b < at → byte_at u' b ≡ byte_at u b)
    → ((p b : ℕ) → p < r → b < 16 → byte_at planes' (p * w + (at + b)) ≡ xor_sum count (λ j. bit_of j p * f j (at + b)))
    → ((p b : ℕ) → p < r → b < at → byte_at planes' (p * w + b) ≡ byte_at planes (p * w + b)) → Summed f count r w u' planes' (at + 16)
summed_more f count r w u u' planes planes' at n le done row left rows lefts = (
  below_sixteen (λ b. byte_at u' b ≡ xor_sum count (λ j. f j b)) at (λ b h. left b h ∙ done.0 b (omega arith)) row,
  (λ p b hp. below_sixteen (λ b. byte_at planes' (p * w + b) ≡ xor_sum count (λ j. bit_of j p * f j b)) at (λ b h. lefts p b hp h ∙ done.1 p b hp (omega arith)) (λ b h. rows p b hp h) b),
)
