-- The sum that v chooses from the group of five rows g is entry 32·g + v of the table of sums.
-- Assumes nothing.
use Prim.Native.Nat.{ℕ, ◌+◌, ◌*◌, ◌/◌, ◌%◌, ◌<◌}
use mathlib.Core.Path.{◌≡◌, ap₂}
use mathlib.Core.List.{List}
use native.Mathlib.Omega.{arith}
use Rattle.strings.specs.Sums.{bit_of, xor_sum}
use Rattle.chunks.specs.Chunks.{chunk, cell_at}
use Rattle.chunks.specs.Subsets.{chosen_byte}
use Rattle.forms_choices.specs.Entries.{entry_byte}

pub entry_is : (S : List ℕ) (g v f : ℕ) → v < 32 → chosen_byte S chunk 5 g v f ≡ entry_byte S (g * 32 + v) f
entry_is S g v f h =
    let value : v ≡ (g * 32 + v) % 32 = omega arith in
    let group : g ≡ (g * 32 + v) / 32 = omega arith in
    ap₂ (λ (x y : ℕ). xor_sum 5 (λ s. bit_of x s * cell_at S (y * 5 + s) f)) value group
