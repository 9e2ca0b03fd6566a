-- Laws of what is added to a byte column: the turned rows, the column's own sixteen, and the rows of the other columns.
-- Assumes nothing.
use mathlib.Core.Path.{◌≡◌, sym, ap, ap₂, ◌∙◌}
use mathlib.Core.Bool.{cond}
use mathlib.Core.List.{List}
use Prim.Native.Nat.{ℕ, ◌+◌, ◌*◌, ◌-◌, ◌/◌, ◌%◌, ◌≤◌, ◌<◌}
use native.Mathlib.Nat.{add-mul, add-zero}
use native.Mathlib.Decide.{dec_lt}
use native.Mathlib.Omega.{arith, ne_cases}
use lib.Dec.{ltb}
use lib.ListN.{drop}
use lib.Seq.{get_or-drop}
use Rattle.theorems.proofs.TestLaws.{ltb_yes, ltb_no}
use Rattle.strings.specs.Sums.{byte_at, bit_of}
use Rattle.strings.proofs.Meaning.{bitOf_zero}
use Rattle.forms_folds.specs.Folds.{entry}
use Rattle.strings.specs.Rows.{RowsKept}
use Rattle.forms_folds.specs.Folds.{piece_rows}
use Rattle.forms_folds.specs.Sets.{Mirrored, Reflected}

-- ---- the rows that are turned

module _ (w from C k : ℕ) (src t : List ℕ) where
  -- byte r / 8 of the z-th of the eight rows
  in_row : (z r : ℕ) → bit_of (byte_at src (from + C * 8 * w + z * w + r / 8)) (r % 8) ≡ entry w (drop from src) (C * 8 + z) r
  in_row z r =
      let at : from + C * 8 * w + z * w + r / 8 ≡ from + ((C * 8 + z) * w + r / 8) = omega (arith, add-mul (C * 8) z w) in
      ap (λ x. bit_of (byte_at src x) (r % 8)) at ∙ ap (λ x. bit_of x (r % 8)) (sym (get_or-drop from src ((C * 8 + z) * w + r / 8) 0))

  abbrev Front : Type 0
  Front = (r z : ℕ) → r < 128 → z < 8 → bit_of (byte_at t (k * 160 + 0 + r)) z ≡ bit_of (byte_at src (from + C * 8 * w + z * w + r / 8)) (r % 8)

  front : Front → (r z : ℕ) → r < 128 → z < 8 → bit_of (byte_at t (k * 160 + r)) z ≡ entry w (drop from src) (C * 8 + z) r
  front turn r z hr hz = ap (λ x. bit_of (byte_at t (x + r)) z) (sym (add-zero (k * 160))) ∙ turn r z hr hz ∙ in_row z r

  pub mirrored : (count : ℕ) → Front → C / 2 ≤ 8 → Mirrored w (drop from src) C count t k
  mirrored count turn early r z hr hc hz = front turn r z (omega arith) hz

  pub mirrored_few : (count : ℕ) → Front → count ≤ 8 → Mirrored w (drop from src) C count t k
  mirrored_few count turn few r z hr hc hz = front turn r z (omega arith) hz

  -- the columns from 16 on are turned by themselves
  pub mirrored-end : (count : ℕ) (t' : List ℕ) → C < 20 → Front → ((x : ℕ) → x < k * 160 + 16 → byte_at t' x ≡ byte_at t x)
      → ((r z : ℕ) → r < 128 → z < 8 → bit_of (byte_at t' (k * 160 + 16 + r)) z ≡ bit_of (byte_at src (from + C * 8 * w + 2 + z * w + r / 8)) (r % 8))
      → Mirrored w (drop from src) C count t' k
  mirrored-end count t' few turn same end r z hr hc hz = go (dec_lt r 16)
    where
      go : Dec (r < 16) → bit_of (byte_at t' (k * 160 + r)) z ≡ entry w (drop from src) (C * 8 + z) r
      go (yes lt) = ap (λ x. bit_of x z) (same (k * 160 + r) (omega arith)) ∙ front turn r z (omega arith) hz
      go (no ge) =
          let at : k * 160 + r ≡ k * 160 + 16 + (r - 16) = omega arith in
          let byte : from + C * 8 * w + 2 + z * w + (r - 16) / 8 ≡ from + C * 8 * w + z * w + r / 8 = omega arith in
          let bit : (r - 16) % 8 ≡ r % 8 = omega arith in
          ap (λ x. bit_of (byte_at t' x) z) at ∙ end (r - 16) z (omega arith) hz ∙ ap₂ (λ x p. bit_of (byte_at src x) p) byte bit ∙ in_row z r

-- ---- the column's own sixteen

module _ (k C count : ℕ) (t t' : List ℕ) (few : count ≤ 10)
    (others : (q j : ℕ) → (C / 2 < 10 → q ≡ k * 10 + C / 2 → ⊥) → j < 16 → byte_at t' (q * 16 + j) ≡ byte_at t (q * 16 + j)) where
  -- a byte by its sixteen
  by-sixteens : (x r : ℕ) → (x * 10 + r / 16) * 16 + r % 16 ≡ x * 160 + r
  by-sixteens x r = omega arith

  other : (x r : ℕ) → (C / 2 < 10 → x * 10 + r / 16 ≡ k * 10 + C / 2 → ⊥) → byte_at t' (x * 160 + r) ≡ byte_at t (x * 160 + r)
  other x r away = ap (byte_at t') (sym (by-sixteens x r)) ∙ others (x * 10 + r / 16) (r % 16) away (omega arith) ∙ ap (byte_at t) (by-sixteens x r)

  pub reflected : (w : ℕ) (M : List ℕ) → Mirrored w M C count t k → (C / 2 < 10 → (j : ℕ) → j < 16 → byte_at t' ((k * 10 + C / 2) * 16 + j) ≡ 0) → Reflected w M C count t' k
  reflected w M mirror zeros r z hr hc hz = go (dec_lt (r / 16) (C / 2))
    where
      go : Dec (r / 16 < C / 2) → bit_of (byte_at t' (k * 160 + r)) z ≡ cond (ltb (r / 16) (C / 2)) (entry w M (C * 8 + z) r) 0
      go (yes lt) =
          ap (λ x. bit_of x z) (other k r (λ _ e. omega arith)) ∙ mirror r z (omega arith) hc hz
          ∙ sym (ap (λ b. cond b (entry w M (C * 8 + z) r) 0) (ltb_yes (r / 16) (C / 2) lt))
      go (no ge) =
          let at : k * 160 + r ≡ (k * 10 + C / 2) * 16 + r % 16 = omega arith in
          ap (λ x. bit_of (byte_at t' x) z) at ∙ ap (λ x. bit_of x z) (zeros (omega arith) (r % 16) (omega arith)) ∙ bitOf_zero z
          ∙ sym (ap (λ b. cond b (entry w M (C * 8 + z) r) 0) (ltb_no (r / 16) (C / 2) (omega arith)))

  pub reflected-kept : (t₀ : List ℕ) → RowsKept piece_rows k t₀ t → RowsKept piece_rows k t₀ t'
  reflected-kept t₀ kept x r away hr = other x r (λ few e. let same : x ≡ k = omega arith in away same) ∙ kept x r away hr

-- ---- the rows of the other columns

-- 128 bytes of row k were written
pub part-kept : (k at : ℕ) (t t' : List ℕ) → at ≤ 32 → ((x : ℕ) → x < k * 160 + at → byte_at t' x ≡ byte_at t x)
    → ((x : ℕ) → byte_at t' (k * 160 + at + (128 + x)) ≡ byte_at t (k * 160 + at + (128 + x))) → RowsKept piece_rows k t t'
part-kept k at t t' fits low high x r away hr =
    ne_cases x k (byte_at t' (x * 160 + r) ≡ byte_at t (x * 160 + r)) away (λ (h : x < k). low (x * 160 + r) (omega arith))
    (λ (h : k < x).
    let e : x * 160 + r ≡ k * 160 + at + (128 + (x * 160 + r - (k * 160 + at + 128))) = omega arith in
    rw e (high (x * 160 + r - (k * 160 + at + 128))))

-- another column stays reflected
pub reflected_stays : (w : ℕ) (M : List ℕ) (C count x k : ℕ) (t t' : List ℕ) → RowsKept piece_rows k t t' → (x ≡ k → ⊥) → count ≤ 10 → Reflected w M C count t x → Reflected w M C count t' x
reflected_stays w M C count x k t t' kept away few done r z hr hc hz = ap (λ b. bit_of b z) (kept x r away (omega arith)) ∙ done r z hr hc hz
