-- What the benchmark's call of the leaf sums promises.
--   SumsTold leaves τ w r table sums table' sums' n == n is 0, the lengths are those of τ trees of 2^r leaves of w
--     bytes, and afterwards the sums have the rows u_e and the table the lanes v_e; or n is 1, the lengths are others,
--     and table and sums are as they were
-- Assumes nothing.
use Rattle.std.specs.Prelude.{◌≡◌, ◌⊎◌, List, ℕ, ◌^◌}
use Rattle.tables.specs.Sums.{TreesReady, SumsAre, TableIs}

abbrev pub SumsTold : List ℕ → ℕ → ℕ → ℕ → List ℕ → List ℕ → List ℕ → List ℕ → ℕ → Type 0
SumsTold leaves τ w r table sums table' sums' n =
    ((n ≡ 0) × TreesReady table sums leaves τ w r × SumsAre sums' leaves τ w (2 ^ r) × TableIs table' leaves τ w (2 ^ r))
    ⊎ ((n ≡ 1) × (TreesReady table sums leaves τ w r → ⊥) × (table' ≡ table) × (sums' ≡ sums))
