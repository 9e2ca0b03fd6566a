-- Laws of the places of the chunks: the panels of a set stand one after the other, and no two chunks at one place.
-- Assumes nothing.
use mathlib.Core.Path.{◌≡◌, sym, ap, ◌∙◌}
use mathlib.Core.Logic.{⊎_elim}
use mathlib.Core.Bool.{cond}
use Prim.Native.Nat.{ℕ, zero, suc, ◌+◌, ◌*◌, ◌/◌, ◌%◌, ◌≤◌, ◌<◌}
use native.Mathlib.Nat.{eq-or-lt_of_le, le_of_suc-le-suc}
use native.Mathlib.Decide.{dec_lt}
use native.Mathlib.Omega.{arith}
use lib.Arith.{digits_div, digits_mod}
use Rattle.theorems.proofs.TestLaws.{ltb_yes, ltb_no}
use Rattle.forms_folds.specs.Folds.{before, height}
use Rattle.forms_folds.specs.Sets.{chunk_place, Beside}

pub height_tall : (first count p : ℕ) → first < count → height first count p ≡ first + p + 1
unfolding height
height_tall first count p h = ap (λ b. cond b (first + p + 1) count) (ltb_yes first count h)

pub height_flat : (first count p : ℕ) → count ≤ first → height first count p ≡ count
unfolding height
height_flat first count p h = ap (λ b. cond b (first + p + 1) count) (ltb_no first count h)

-- a row that the piece has, on the diagonal or above
pub in_height : (first count p q : ℕ) → q < count → q ≤ first + p → q < height first count p
in_height first count p q few above = go (dec_lt first count)
  where
    go : Dec (first < count) → q < height first count p
    go (yes lt) = omega (arith, height_tall first count p lt)
    go (no ge) = omega (arith, height_flat first count p (omega arith))

pub before_tall : (first count p : ℕ) → first < count → p < 4 → p * (2 * first + p + 1) / 2 ≡ before first count p
unfolding before
before_tall first count zero h k = omega arith
before_tall first count (suc zero) h k = omega (arith, height_tall first count 0 h)
before_tall first count (suc (suc zero)) h k = omega (arith, height_tall first count 0 h, height_tall first count 1 h)
before_tall first count (suc (suc (suc zero))) h k = omega (arith, height_tall first count 0 h, height_tall first count 1 h, height_tall first count 2 h)
before_tall first count (suc (suc (suc (suc p)))) h k = absurd (omega arith)

pub before_flat : (first count p : ℕ) → count ≤ first → p < 4 → p * count ≡ before first count p
unfolding before
before_flat first count zero h k = omega arith
before_flat first count (suc zero) h k = omega (arith, height_flat first count 0 h)
before_flat first count (suc (suc zero)) h k = omega (arith, height_flat first count 0 h, height_flat first count 1 h)
before_flat first count (suc (suc (suc zero))) h k = omega (arith, height_flat first count 0 h, height_flat first count 1 h, height_flat first count 2 h)
before_flat first count (suc (suc (suc (suc p)))) h k = absurd (omega arith)

-- a panel ends before a later one begins
pub before-next : (first count p x : ℕ) → p < x → before first count p + height first count p ≤ before first count x
unfolding before
before-next first count p zero h = absurd (omega arith)
before-next first count p (suc x) h =
    ⊎_elim (λ (e : p ≡ x). rw e (omega arith)) (λ (lt : p < x). omega (arith, before-next first count p x lt)) (eq-or-lt_of_le (le_of_suc-le-suc h))

-- two sixteens of rows of a set that stand at one chunk_place are of one number
pub same_rows : (first count p q x y : ℕ) → q < count → y < count → q ≤ first + p → y ≤ first + x → before first count p + q ≡ before first count x + y → q ≡ y
same_rows first count p q x y cq cy hq hy e = go (dec_lt p x) (dec_lt x p)
  where
    go : Dec (p < x) → Dec (x < p) → q ≡ y
    go (yes lt) d = absurd (omega (arith, before-next first count p x lt, in_height first count p q cq hq))
    go (no ge) (yes gt) = absurd (omega (arith, before-next first count x p gt, in_height first count x y cy hy))
    go (no ge) (no le) =
        let same : p ≡ x = omega arith in
        let begin : before first count p ≡ before first count x = ap (before first count) same in
        omega arith

module _ (m i : ℕ) (inside : i < m) where
  place-rows : (A B : ℕ) → A * m + i ≡ B * m + i → A ≡ B
  place-rows A B e = sym (digits_div A inside) ∙ ap (λ x. x / m) e ∙ digits_div B inside

  -- other sixteen rows of the same matrix
  pub beside_rows : (first count p x q : ℕ) → x < q → q < count → x ≤ first + p → Beside first count q m i 4 (chunk_place first count p x m i)
  beside_rows first count p x q lt few hx r hr hq e =
      let same : x ≡ q = same_rows first count p x r q (omega arith) few hx hq (place-rows (before first count p + x) (before first count r + q) e) in
      omega arith

  -- the same sixteen rows of a later panel
  pub beside_panel : (first count p x q : ℕ) → x < p → q < count → q ≤ first + x → chunk_place first count x q m i ≡ chunk_place first count p q m i → ⊥
  beside_panel first count p x q lt few hq e =
      let same : before first count x + q ≡ before first count p + q = place-rows (before first count x + q) (before first count p + q) e in
      omega (arith, before-next first count x p lt, in_height first count x q few hq)

  -- another matrix
  pub beside_matrix : (first count q k Q x : ℕ) → x < m → (x ≡ i → ⊥) → Beside first count q m i k (Q * m + x)
  beside_matrix first count q k Q x hx other p hp hq e = other (sym (digits_mod Q hx) ∙ ap (λ z. z % m) e ∙ digits_mod (before first count p + q) inside)
