-- Rows of one length in a table: where they end, what stands in one, and a table after one of its rows was written.
-- Assumes nothing.
use Prim.Native.Nat.{ℕ, zero, suc, ◌+◌, ◌*◌, ◌-◌, ◌≤◌, ◌<◌}
use mathlib.Core.Path.{◌≡◌, sym, ap, ◌∙◌}
use mathlib.Core.List.{List, [], ◌∷◌, ◌++◌}
use mathlib.Core.Logic.{⊎_elim}
use native.Mathlib.Nat.{eq-or-lt_of_le, le_of_suc-le-suc}
use native.Mathlib.Numerals.{add-one}
use native.Mathlib.Omega.{arith, ne_cases}
use lib.ListN.{length, take, drop, get_or-append}
use lib.Seq.{length-take-le, get_or-take, get_or-drop, get_or-append-add}
use borrow.Rule.Slice.PartMut.{put_mid}
use Rattle.strings.specs.Sums.{byte_at}
use Rattle.protocol.specs.Lists.{part, block_at}
pub use Rattle.theorems.proofs.ListLaws.{row-end}

pub row-byte : (table : List ℕ) (w i b : ℕ) → b < w → byte_at (block_at table w i) b ≡ byte_at table (i * w + b)
unfolding block_at part
row-byte table w i b h = get_or-take w (drop (i * w) table) b 0 h ∙ get_or-drop (i * w) table b 0

-- a row of bytes is of bytes
pub row_lt : (table : List ℕ) (w i m : ℕ) → 0 < m → ((j : ℕ) → byte_at table j < m) → (b : ℕ) → byte_at (block_at table w i) b < m
unfolding block_at part
row_lt table w i m pos h b = part (drop (i * w) table) w b (λ j. rw (get_or-drop (i * w) table j 0) (h (i * w + j)))
  where
    part : (l : List ℕ) (n j : ℕ) → ((k : ℕ) → byte_at l k < m) → byte_at (take n l) j < m
    part l zero j k = pos
    part [] (suc n) j k = pos
    part (x ∷ l) (suc n) zero k = k zero
    part (x ∷ l) (suc n) (suc j) k = part l n j (λ i. k (suc i))

module _ (a k : ℕ) (l r : List ℕ) (fits : a + k ≤ length l) (same : length r ≡ k) where
  front : length (take a l) ≡ a
  front = length-take-le a l (omega arith)

  pub put_before : (i : ℕ) → i < a → byte_at (put_mid a k l r) i ≡ byte_at l i
  put_before i h = get_or-append (take a l) (r ++ drop k (drop a l)) 0 i (omega (arith, front)) ∙ get_or-take a l i 0 h

  pub put_in : (b : ℕ) → b < k → byte_at (put_mid a k l r) (a + b) ≡ byte_at r b
  put_in b h =
      ap (λ (n : ℕ). byte_at (put_mid a k l r) (n + b)) (sym front) ∙ get_or-append-add (take a l) (r ++ drop k (drop a l)) b 0
      ∙ get_or-append r (drop k (drop a l)) 0 b (omega arith)

  pub put_after : (b : ℕ) → byte_at (put_mid a k l r) (a + (k + b)) ≡ byte_at l (a + (k + b))
  put_after b =
      ap (λ (n : ℕ). byte_at (put_mid a k l r) (n + (k + b))) (sym front) ∙ get_or-append-add (take a l) (r ++ drop k (drop a l)) (k + b) 0
      ∙ ap (λ (n : ℕ). byte_at (r ++ drop k (drop a l)) (n + b)) (sym same) ∙ get_or-append-add r (drop k (drop a l)) b 0
      ∙ get_or-drop k (drop a l) b 0 ∙ get_or-drop a l (k + b) 0

-- the other rows of the table, after row i was written
pub put_other : (i w : ℕ) (l r : List ℕ) → i * w + w ≤ length l → length r ≡ w
    → (q b : ℕ) → (q ≡ i → ⊥) → b < w → byte_at (put_mid (i * w) w l r) (q * w + b) ≡ byte_at l (q * w + b)
put_other i w l r fits same q b other hb =
    ne_cases q i (byte_at (put_mid (i * w) w l r) (q * w + b) ≡ byte_at l (q * w + b)) other
    (λ (h : q < i). put_before (i * w) w l r fits same (q * w + b) (omega (arith, row-end q i w h)))
    (λ (h : i < q).
    let e : q * w + b ≡ i * w + (w + (q * w + b - (i * w + w))) = omega (arith, row-end i q w h) in
    rw e (put_after (i * w) w l r fits same (q * w + b - (i * w + w))))

-- the first n rows of w bytes of l are g 0, .., g (n - 1)
abbrev pub RowsAre : (ℕ → ℕ → ℕ) → List ℕ → ℕ → ℕ → Type 0
RowsAre g l n w = (i b : ℕ) → i < n → b < w → byte_at l (i * w + b) ≡ g i b

-- the rows below n are done, and now row n
pub rows_more : (g : ℕ → ℕ → ℕ) (l l' : List ℕ) (n w : ℕ) → RowsAre g l n w → ((b : ℕ) → b < w → byte_at l' (n * w + b) ≡ g n b)
    → ((q b : ℕ) → (q ≡ n → ⊥) → b < w → byte_at l' (q * w + b) ≡ byte_at l (q * w + b)) → RowsAre g l' (n + 1) w
rows_more g l l' n w done row others i b h k =
    ⊎_elim (λ (e : i ≡ n). rw e (row b k)) (λ (lt : i < n). others i b (λ x. omega arith) k ∙ done i b lt k) (eq-or-lt_of_le (le_of_suc-le-suc (rw add-one at h)))
