-- Lists made from functions, and tests at every index.
--   table n f == f 0, .., f (n - 1);  concat ss == the strings of ss, one after the other
--   all_below n p == p i for each i < n;  all_true bs == each of bs
--   first_not n p == the first i < n with not p i (n where there is none)
--   block_at s w i == block i of s, cut in blocks of w entries;  part s at len == len entries of s from index at on
-- Assumes nothing.
use Rattle.std.specs.Prelude.{Bool, true, false, ◌&&◌, List, [], ◌∷◌, ◌++◌, ℕ, zero, suc, ◌*◌, take, drop}

unfoldable pub table : {A : Type 0} → ℕ → (ℕ → A) → List A
table zero f = []
table (suc n) f = f 0 ∷ table n (λ i. f (suc i))

unfoldable pub concat : List (List ℕ) → List ℕ
concat [] = []
concat (s ∷ ss) = s ++ concat ss

unfoldable pub all_below : ℕ → (ℕ → Bool) → Bool
all_below zero p = true
all_below (suc n) p = p 0 && all_below n (λ i. p (suc i))

abbrev pub all_true : List Bool → Bool
all_true [] = true
all_true (b ∷ bs) = b && all_true bs

unfoldable pub first_not : ℕ → (ℕ → Bool) → ℕ
first_not zero p = 0
first_not (suc n) p = elim (p 0) [ true ↦ suc (first_not n (λ i. p (suc i))) | false ↦ 0 ]

unfoldable pub part : List ℕ → ℕ → ℕ → List ℕ
part s at len = take len (drop at s)

unfoldable pub block_at : List ℕ → ℕ → ℕ → List ℕ
block_at s w i = part s (i * w) w
