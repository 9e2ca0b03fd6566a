-- Cells of a table of rows: distinct cells stand at distinct places.
-- Assumes nothing.
use mathlib.Core.Path.{◌≡◌, ap}
use mathlib.Core.Logic.{◌≢◌}
use Prim.Native.Nat.{ℕ, ◌+◌, ◌*◌, ◌<◌}
use native.Mathlib.Decide.{dec_lt}
use native.Mathlib.Omega.{arith}
use Rattle.theorems.proofs.ListLaws.{row-end}

pub cell_other : (q r e c t : ℕ) → r < t → c < t → (q ≡ e → r ≡ c → ⊥) → q * t + r ≢ e * t + c
cell_other q r e c t hr hc n h = go (dec_lt q e) (dec_lt e q)
  where
    go : Dec (q < e) → Dec (e < q) → ⊥
    go (yes l) d = omega (arith, row-end q e t l)
    go (no l) (yes g) = omega (arith, row-end e q t g)
    go (no l) (no g) =
        let s : q ≡ e = omega arith in
        n s (omega (arith, ap (λ k. k * t) s))
