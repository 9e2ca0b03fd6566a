-- Strings made of what they hold: a string whose bits are f, and 0 past the last, is `pack` of f; a table whose rows
-- are f is those rows, one after the other.
-- Assumes nothing.
use Prim.Native.Nat.{ℕ, zero, suc, ◌+◌, ◌*◌, ◌-◌, ◌≤◌, ◌<◌}
use mathlib.Core.Path.{◌≡◌, refl, sym, ap, ap₂, ◌∙◌}
use mathlib.Core.Bool.{true}
use mathlib.Core.List.{List, [], ◌∷◌, ◌++◌}
use native.Mathlib.Nat.{zero-mul, suc-mul}
use native.Mathlib.Omega.{arith}
use lib.ListN.{length, take, drop, length-drop, take-append-drop}
use lib.Seq.{drop-drop}
use Rattle.protocol.specs.Lists.{table, concat, part, block_at}
use Rattle.protocol.specs.Strings.{bytes_for, bit, spare_zero, pack}
use Rattle.theorems.proofs.TestLaws.{eqb_same, all_of}
use Rattle.theorems.proofs.StringLaws.{string_is, pack_congr}
use Rattle.strings.specs.Sums.{byte_at}

pub spare_of : (L : ℕ) (s : List ℕ) → ((c : ℕ) → L ≤ c → c < length s * 8 → bit s c ≡ 0) → spare_zero s L ≡ true
unfolding spare_zero
spare_of L s h = all_of (length s * 8 - L) _ (λ i l. eqb_same (bit s (L + i)) 0 (h (L + i) (omega arith) (omega arith)))

pub packed : (L : ℕ) (s : List ℕ) (f : ℕ → ℕ) → length s ≡ bytes_for L → ((i : ℕ) → byte_at s i < 256) → ((c : ℕ) → c < L → bit s c ≡ f c)
    → ((c : ℕ) → L ≤ c → c < length s * 8 → bit s c ≡ 0) → s ≡ pack L f
packed L s f long bytes is zeros = sym (string_is L s long (λ i l. bytes i) (spare_of L s zeros)) ∙ pack_congr L (bit s) f is

pub rows_are : (w n : ℕ) (s : List ℕ) (f : ℕ → List ℕ) → length s ≡ n * w → ((i : ℕ) → i < n → block_at s w i ≡ f i) → s ≡ concat (table n f)
unfolding table concat block_at part
rows_are w zero s f long is = none s (long ∙ zero-mul w)
  where
    none : (s : List ℕ) → length s ≡ 0 → s ≡ []
    none [] h = refl
    none (x ∷ s) h = absurd (omega arith)
rows_are w (suc n) s f long is =
    sym (take-append-drop w s)
    ∙ ap₂ ◌++◌ (first ∙ is 0 (omega arith)) (rows_are w n (drop w s) (λ i. f (suc i)) rest (λ i l. next i ∙ is (suc i) (omega arith)))
  where
    first : take w s ≡ block_at s w 0
    first = rw (zero-mul w)

    rest : length (drop w s) ≡ n * w
    rest = length-drop w s ∙ omega (arith, suc-mul n w)

    next : (i : ℕ) → block_at (drop w s) w i ≡ block_at s w (suc i)
    next i = let e : w + i * w ≡ suc i * w = omega (arith, suc-mul i w) in ap (take w) (drop-drop (i * w) w s ∙ ap (λ k. drop k s) e)
