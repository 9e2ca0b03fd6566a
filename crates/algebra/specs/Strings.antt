-- The strings of field elements.
--   strings K n == all strings of n elements of K
-- Assumes nothing.
use Rattle.std.specs.Prelude.{List, ℕ}
use Rattle.algebra.specs.Field.{Field}
use Rattle.algebra.specs.Count.{words}

abbrev pub strings : (K : Field) → ℕ → List (List K.R.F)
strings K n = words K.elements n
