-- What is below two numbers is below the lesser of them.
-- Assumes nothing.
use mathlib.Core.Path.{◌≡◌}
use Prim.Native.Nat.{ℕ, ◌≤◌, ◌<◌}
use native.Mathlib.Decide.{dec_lt}
use native.Mathlib.Omega.{arith}

pub under_least : (k m a b : ℕ) → (m < a → m ≡ b) → k ≤ a → k ≤ b → k ≤ m
under_least k m a b other ha hb = go (dec_lt m a)
  where
    go : Dec (m < a) → k ≤ m
    go (yes below) = omega (arith, other below)
    go (no above) = omega arith
