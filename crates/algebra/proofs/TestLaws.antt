-- A test that passes is true; and one that the checker computes at each number below n holds at each number below n.
--   every_below n p == p passes at 0, 1, .., n - 1
-- Assumes nothing.
use mathlib.Core.Path.{◌≡◌, refl}
use mathlib.Core.Bool.{Bool, true, false, ◌&&◌}
use Prim.Native.Nat.{ℕ, zero, suc, ◌<◌}
use native.Mathlib.Nat.{not-suc-le-zero, le_of_suc-le-suc}
use lib.Dec.{T}
use Rattle.algebra.proofs.BitsLaws.{both_left, both_right}

pub T_true : (b : Bool) → T b → b ≡ true
T_true true t = refl
T_true false t = absurd t

abbrev pub every_below : ℕ → (ℕ → Bool) → Bool
every_below zero p = true
every_below (suc n) p = p 0 && every_below n (λ k. p (suc k))

pub every-at : (n : ℕ) (p : ℕ → Bool) → T (every_below n p) → (k : ℕ) → k < n → T (p k)
every-at zero p t k h = absurd (not-suc-le-zero h)
every-at (suc n) p t zero h = both_left (p 0) (every_below n (λ k. p (suc k))) t
every-at (suc n) p t (suc k) h = every-at n (λ j. p (suc j)) (both_right (p 0) (every_below n (λ j. p (suc j))) t) k (le_of_suc-le-suc h)
