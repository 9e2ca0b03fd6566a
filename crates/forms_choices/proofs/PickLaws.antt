-- Laws of the rows of fives: what they hold of the bytes, and what is chosen from them.
-- Assumes nothing.
use Prim.Native.Nat.{ℕ, ◌+◌, ◌*◌, ◌-◌, ◌/◌, ◌%◌, ◌<◌}
use mathlib.Core.Path.{◌≡◌, sym, ap, ◌∙◌}
use mathlib.Core.List.{List}
use mathlib.Core.Logic.{⊎_elim}
use native.Mathlib.Nat.{add-zero, eq-or-lt_of_le, le_of_suc-le-suc}
use native.Mathlib.Decide.{dec_lt}
use native.Mathlib.Numerals.{add-one}
use native.Mathlib.Omega.{arith}
use lib.ListN.{length, set, length-set}
use lib.Seq.{get_or-set_same, get_or-set_other}
use Rattle.strings.specs.Sums.{byte_at, bit_of}
use Rattle.strings.proofs.Rows.{RowsAre}
use Rattle.forms_choices.specs.Entries.{choice, in_rows}

-- ---- the rows

pub rows_held : (bytes rows : List ℕ) → RowsAre (λ h i. byte_at bytes (h * 80 + i % 16 * 5 + i / 16)) rows 2 128 → (i : ℕ) → i < 160 → in_rows rows i ≡ byte_at bytes i
rows_held bytes rows held i h =
    let k = i % 5 * 16 + i / 5 % 16 in
    let u : k % 16 ≡ i / 5 % 16 = omega arith in
    let v : k / 16 ≡ i % 5 = omega arith in
    let at : i / 80 * 80 + k % 16 * 5 + k / 16 ≡ i = rw (u, v) (omega arith) in
    held (i / 80) k (omega arith) (omega arith) ∙ ap (byte_at bytes) at

in_rows_lem : (R : List ℕ) (h g z : ℕ) → g < 16 → z < 5 → in_rows R ((h * 16 + g) * 5 + z) ≡ byte_at R (h * 128 + g + z * 16)
in_rows_lem R h g z hg hz =
    let n = (h * 16 + g) * 5 + z in
    let q : n / 80 ≡ h = omega arith in
    let r : n % 5 ≡ z = omega arith in
    let five : n / 5 ≡ h * 16 + g = omega arith in
    let f : n / 5 % 16 ≡ g = rw five (omega arith) in
    let at : n / 80 * 128 + (n % 5 * 16 + n / 5 % 16) ≡ h * 128 + g + z * 16 = rw (q, r, f) (omega arith) in
    ap (byte_at R) at

pub choice-rows : (R : List ℕ) (h g p : ℕ) → g < 16
    → choice (in_rows R) p (h * 16 + g) ≡ bit_of (byte_at R (h * 128 + g)) p + bit_of (byte_at R (h * 128 + g + 16)) p * 2 + bit_of (byte_at R (h * 128 + g + 32)) p * 4 + bit_of (byte_at R (h * 128 + g + 48)) p * 8 + bit_of (byte_at R (h * 128 + g + 64)) p * 16
unfolding choice
choice-rows R h g p hg =
    let none : in_rows R ((h * 16 + g) * 5) ≡ byte_at R (h * 128 + g) = ap (in_rows R) (sym (add-zero ((h * 16 + g) * 5))) ∙ in_rows_lem R h g 0 hg (omega arith) ∙ ap (byte_at R) (add-zero (h * 128 + g)) in
    rw (none, in_rows_lem R h g 1 hg (omega arith), in_rows_lem R h g 2 hg (omega arith), in_rows_lem R h g 3 hg (omega arith), in_rows_lem R h g 4 hg (omega arith))

-- ---- both sixteens

pub both_more : (f f' : ℕ → ℕ) (g v v' : ℕ) (l : List ℕ) → g < 16 → length l ≡ 32 → v ≡ f g → v' ≡ f' g
    → ((k : ℕ) → k < g → (byte_at l k ≡ f k) × (byte_at l (16 + k) ≡ f' k))
    → (k : ℕ) → k < g + 1 → (byte_at (set (set l g v) (16 + g) v') k ≡ f k) × (byte_at (set (set l g v) (16 + g) v') (16 + k) ≡ f' k)
both_more f f' g v v' l hg long own own' done k h =
    let fits : 16 + g < length (set l g v) = omega (arith, length-set l g v) in
    ⊎_elim
    (λ (e : k ≡ g).
    rw e (get_or-set_other (set l g v) (16 + g) g v' 0 (λ x. omega arith) ∙ get_or-set_same l g v 0 (omega arith) ∙ own, get_or-set_same (set l g v) (16 + g) v' 0 fits ∙ own'))
    (λ (lt : k < g). (
      get_or-set_other (set l g v) (16 + g) k v' 0 (λ x. omega arith) ∙ get_or-set_other l g k v 0 (λ x. omega arith) ∙ (done k lt).0,
      get_or-set_other (set l g v) (16 + g) (16 + k) v' 0 (λ x. omega arith) ∙ get_or-set_other l g (16 + k) v 0 (λ x. omega arith) ∙ (done k lt).1,
    ))
    (eq-or-lt_of_le (le_of_suc-le-suc (rw add-one at h)))

pub both-all : (f : ℕ → ℕ) (l : List ℕ) → ((k : ℕ) → k < 16 → (byte_at l k ≡ f (0 * 16 + k)) × (byte_at l (16 + k) ≡ f (1 * 16 + k))) → (g : ℕ) → g < 32 → byte_at l g ≡ f g
both-all f l done g h = go (dec_lt g 16)
  where
    go : Dec (g < 16) → byte_at l g ≡ f g
    go (yes lt) = let e : 0 * 16 + g ≡ g = omega arith in (done g lt).0 ∙ ap f e
    go (no ge) =
        let at : g ≡ 16 + (g - 16) = omega arith in
        let e : 1 * 16 + (g - 16) ≡ g = omega arith in
        ap (byte_at l) at ∙ (done (g - 16) (omega arith)).1 ∙ ap f e
