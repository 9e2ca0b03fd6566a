-- Sums, bilinear forms and powers in a ring.
--   sum R n f == f 0 + f 1 + ⋯ + f (n - 1);  form R n A x y == xᵀAy = Σ_i Σ_j x_i · A_ij · y_j, over i, j < n
--   power R a i == a^i
-- Assumes nothing.
use Rattle.std.specs.Prelude.{ℕ, zero, suc}
use Rattle.algebra.specs.Ring.{Ring}

module _ (R : Ring) where
  open R use {F, 𝟘, 𝟙, add as ◌⊕◌, mul as ◌⊗◌}

  infixl 65 ◌⊕◌
  infixl 70 ◌⊗◌
  abbrev pub sum : ℕ → (ℕ → F) → F
  sum zero f = 𝟘
  sum (suc n) f = sum n f ⊕ f n

  unfoldable pub form : ℕ → (ℕ → ℕ → F) → (ℕ → F) → (ℕ → F) → F
  form n A x y = sum n (λ i. sum n (λ j. x i ⊗ A i j ⊗ y j))

  unfoldable pub power : F → ℕ → F
  power a zero = 𝟙
  power a (suc i) = a ⊗ power a i
