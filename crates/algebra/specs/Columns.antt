-- The columns that make a combination of given elements zero, counted.
--   column_sum K m col f == Σ_{i<m} col_i · f_i
--   zero_columns K m f == how many of all columns of m elements make that sum 0
--   FailingColumns m f == if some f_i is not 0, they are size^(m-1)
--   AllColumns m f == if every f_i is 0, they are all size^m
-- Assumes nothing.
use Rattle.std.specs.Prelude.{◌≡◌, ◌≢◌, List, ℕ, ◌-◌, ◌^◌, ◌<◌, get_or}
use Rattle.algebra.specs.Count.{count}
use Rattle.algebra.specs.Field.{Field}
use Rattle.algebra.specs.Strings.{strings}
use Rattle.algebra.specs.Sum.{sum}
use Rattle.algebra.specs.Roots.{is_zero}

module _ (K : Field) where
  open K use {R, size}
  open R use {F, 𝟘, mul as ◌⊗◌}

  infixl 70 ◌⊗◌
  unfoldable pub column_sum : ℕ → List F → (ℕ → F) → F
  column_sum m col f = sum R m (λ i. get_or col i 𝟘 ⊗ f i)

  unfoldable pub zero_columns : ℕ → (ℕ → F) → ℕ
  zero_columns m f = count (λ col. is_zero K (column_sum m col f)) (strings K m)

  abbrev pub FailingColumns : ℕ → (ℕ → F) → Type 0
  FailingColumns m f = (i : ℕ) → i < m → f i ≢ 𝟘 → zero_columns m f ≡ size ^ (m - 1)

  abbrev pub AllColumns : ℕ → (ℕ → F) → Type 0
  AllColumns m f = ((i : ℕ) → i < m → f i ≡ 𝟘) → zero_columns m f ≡ size ^ m
