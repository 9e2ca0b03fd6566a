-- Loops that change each element of a string once, in rising order: after n turns the first n are changed, and the
-- others are as they were.
-- Assumes nothing.
use Prim.Native.Nat.{ℕ, zero, suc, ◌+◌, ◌≤◌, ◌<◌}
use mathlib.Core.Path.{◌≡◌, refl, ap, ◌∙◌}
use mathlib.Core.List.{List}
use mathlib.Core.Logic.{⊎_elim}
use native.Mathlib.Nat.{eq-or-lt_of_le, le_of_suc-le-suc}
use native.Mathlib.Numerals.{add-one}
use native.Mathlib.Omega.{arith}
use lib.ListN.{length, set, length-set}
use lib.Seq.{get_or-set_same, get_or-set_other}
use Rattle.strings.specs.Sums.{byte_at}

-- the first n elements x of d, each at its place k, changed to g k x
unfoldable pub changed : (ℕ → ℕ → ℕ) → List ℕ → ℕ → List ℕ
changed g d zero = d
changed g d (suc k) = set (changed g d k) k (g k (byte_at (changed g d k) k))

pub changed-length : (g : ℕ → ℕ → ℕ) (d : List ℕ) (n : ℕ) → length (changed g d n) ≡ length d
unfolding changed
changed-length g d zero = refl
changed-length g d (suc k) = length-set (changed g d k) k (g k (byte_at (changed g d k) k)) ∙ changed-length g d k

pub changed-past : (g : ℕ → ℕ → ℕ) (d : List ℕ) (n i : ℕ) → n ≤ i → byte_at (changed g d n) i ≡ byte_at d i
unfolding changed
changed-past g d zero i h = refl
changed-past g d (suc k) i h =
    get_or-set_other (changed g d k) k i (g k (byte_at (changed g d k) k)) 0 (λ e. omega arith)
    ∙ changed-past g d k i (omega arith)

pub changed-at : (g : ℕ → ℕ → ℕ) (d : List ℕ) (n i : ℕ) → n ≤ length d → i < n → byte_at (changed g d n) i ≡ g i (byte_at d i)
unfolding changed
changed-at g d zero i hn hi = absurd (omega arith)
changed-at g d (suc k) i hn hi =
    ⊎_elim
    (λ (e : i ≡ k).
    let fits : k < length (changed g d k) = omega (arith, changed-length g d k) in
    rw e (get_or-set_same (changed g d k) k (g k (byte_at (changed g d k) k)) 0 fits ∙ ap (g k) (changed-past g d k k (omega arith))))
    (λ (h : i < k).
    get_or-set_other (changed g d k) k i (g k (byte_at (changed g d k) k)) 0 (λ e. omega arith) ∙ changed-at g d k i (omega arith) h)
    (eq-or-lt_of_le (le_of_suc-le-suc hi))

-- a turn of such a loop, and its end
pub changed_more : (g : ℕ → ℕ → ℕ) (d l : List ℕ) (n v : ℕ) → l ≡ changed g d n → v ≡ g n (byte_at l n) → set l n v ≡ changed g d (n + 1)
unfolding changed
changed_more g d l n v e h = rw (add-one, h, e)

pub changed-all : (g : ℕ → ℕ → ℕ) (d l : List ℕ) (n : ℕ) → l ≡ changed g d n → length d ≤ n → n ≤ length d
    → (i : ℕ) → i < length d → byte_at l i ≡ g i (byte_at d i)
changed-all g d l n e h k i hi = rw e (changed-at g d n i k (omega arith))
