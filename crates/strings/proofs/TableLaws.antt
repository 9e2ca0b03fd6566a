-- A buffer whose entries are those of a table is the table; and so for rows.
-- Assumes nothing.
use mathlib.Core.Path.{◌≡◌, refl, sym, ap, ◌∙◌}
use mathlib.Core.List.{List}
use Prim.Native.Nat.{ℕ, zero, suc, ◌+◌, ◌*◌, ◌/◌, ◌%◌, ◌<◌, ◌≤◌}
use native.Mathlib.Nat.{min-eq_left, div-add-mod', div-lt_iff_lt-mul, mod-lt, mul-zero}
use native.Mathlib.Omega.{arith}
use lib.ListN.{length, get_or, take, length-take}
use lib.Seq.{ext_get_or, get_or-take}
use Rattle.protocol.specs.Lists.{table, concat}
use Rattle.theorems.proofs.ListLaws.{length-table, table_at, table-length, table-block, block_getD}

pub list-table : (l : List ℕ) (n : ℕ) (f : ℕ → ℕ) → length l ≡ n → ((i : ℕ) → i < n → get_or l i 0 ≡ f i) → l ≡ table n f
list-table l n f h e =
    ext_get_or 0 l (table n f) (h ∙ sym (length-table n f)) (λ i k. let j : i < n = omega (arith, h) in e i j ∙ sym (table_at n f 0 i j))

-- and so for its first entries
pub prefix_table : (l : List ℕ) (n : ℕ) (f : ℕ → ℕ) → n ≤ length l → ((i : ℕ) → i < n → get_or l i 0 ≡ f i) → take n l ≡ table n f
prefix_table l n f h e = list-table (take n l) n f (length-take n l ∙ min-eq_left h) (λ i k. get_or-take n l i 0 k ∙ e i k)

module _ (l : List ℕ) (n w : ℕ) (f : ℕ → List ℕ) (h : length l ≡ n * w) (rows : (i : ℕ) → i < n → length (f i) ≡ w)
    (e : (i b : ℕ) → i < n → b < w → get_or l (i * w + b) 0 ≡ get_or (f i) b 0) where
  at : (i b : ℕ) → i < n → b < w → get_or l (i * w + b) 0 ≡ get_or (concat (table n f)) (i * w + b) 0
  at i b li lb = e i b li lb ∙ ap (λ r. get_or r b 0) (sym (table-block w n f rows i li)) ∙ block_getD (concat (table n f)) w i b lb

  at-index : (k : ℕ) → k < n * w → (v : ℕ) → v ≡ w → get_or l k 0 ≡ get_or (concat (table n f)) k 0
  at-index k lk zero z = absurd (omega (arith, mul-zero n, ap (λ x. n * x) z))
  at-index k lk (suc v) z =
      let pos : 0 < w = omega arith in
      let q : k / w < n = (div-lt_iff_lt-mul pos).1 lk in
      rw (div-add-mod' k w) at (at (k / w) (k % w) q (mod-lt k pos))

  pub rows-table : l ≡ concat (table n f)
  rows-table = ext_get_or 0 l (concat (table n f)) (h ∙ sym (table-length w n f rows)) (λ k lk. at-index k (rw (← h) lk) w refl)
