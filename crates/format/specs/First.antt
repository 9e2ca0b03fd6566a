-- The first index below a bound that fails a test, where there is one.
--   FirstOf n p first == first is the first i < n with not p i, or None where each passes
-- Assumes nothing.
use Rattle.std.specs.Prelude.{◌≡◌, Bool, ℕ, ◌<◌, Option, Some, None}
use Rattle.protocol.specs.Lists.{first_not}

abbrev pub FirstOf : ℕ → (ℕ → Bool) → Option ℕ → Type 0
FirstOf n p (Some i) = (i < n) × (i ≡ first_not n p)
FirstOf n p None = n ≡ first_not n p
