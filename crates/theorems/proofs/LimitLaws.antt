-- Sizes within the limits of 01.
-- Assumes nothing.
use mathlib.Core.Path.{◌≡◌}
use mathlib.Core.Bool.{true}
use mathlib.Core.List.{[], ◌∷◌}
use Prim.Native.Nat.{ℕ, ◌≤◌}
use lib.Dec.{leb}
use Rattle.algebra.proofs.CountLaws.{and_right}
use Rattle.protocol.specs.Shape.{Shape, within, most_variables, least_equations, most_equations, most_repetitions, most_hash_rows, limits}
use Rattle.theorems.proofs.TestLaws.{all_true_lem, leb_le}

pub record Bounds (s : Shape) : Type 0 where
  pub n≤ : s.n ≤ most_variables
  pub m≤ : s.m ≤ most_equations
  pub τ≤ : s.τ ≤ most_repetitions
  pub t≤ : s.t ≤ most_hash_rows

pub within_le : (least most x : ℕ) → within least most x ≡ true → x ≤ most
unfolding within
within_le least most x h = leb_le x most (and_right (leb least x) (leb x most) h)

pub bounds_of : (s : Shape) → limits s ≡ true → Bounds s
unfolding limits
bounds_of s h =
    let t = all_true_lem (within 1 most_variables s.n ∷ within least_equations most_equations s.m ∷ within 1 most_repetitions s.τ ∷ within 1 most_hash_rows s.t ∷ []) h in
    record { n≤ = within_le 1 most_variables s.n t.0; m≤ = within_le least_equations most_equations s.m t.1.0; τ≤ = within_le 1 most_repetitions s.τ t.1.1.0; t≤ = within_le 1 most_hash_rows s.t t.1.1.1.0 }
