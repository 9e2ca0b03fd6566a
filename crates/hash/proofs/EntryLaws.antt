-- The sum that v chooses from the group of four coordinates g is entry 16·g + v of the table of sums.
-- Assumes nothing.
use Prim.Native.Nat.{ℕ, ◌+◌, ◌*◌, ◌/◌, ◌%◌, ◌<◌}
use mathlib.Core.Path.{◌≡◌, ap₂}
use mathlib.Core.List.{List}
use native.Mathlib.Omega.{arith}
use Rattle.strings.specs.Sums.{bit_of, xor_sum}
use Rattle.lanes.specs.Lanes.{lanes, lane_at}
use Rattle.chunks.specs.Subsets.{chosen_byte}
use Rattle.hash.specs.Entries.{entry_lane}

pub entry_is : (T : List ℕ) (g v e : ℕ) → v < 16 → chosen_byte T lanes 4 g v e ≡ entry_lane T (g * 16 + v) e
entry_is T g v e h =
    let value : v ≡ (g * 16 + v) % 16 = omega arith in
    let group : g ≡ (g * 16 + v) / 16 = omega arith in
    ap₂ (λ (x y : ℕ). xor_sum 4 (λ s. bit_of x s * lane_at T (y * 4 + s) e)) value group
