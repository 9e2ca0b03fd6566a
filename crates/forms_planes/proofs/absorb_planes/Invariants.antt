-- `forms_planes::absorb_planes` meets its contract. The invariant: the bytes below f are done, and the others are as
-- they were.
-- Assumes nothing.
use Prim.Native.Nat.{ℕ, ◌+◌, ◌*◌, ◌≤◌, ◌<◌, ◌^◌}
use mathlib.Core.List.{List}
use mathlib.Core.Path.{◌≡◌}
use lib.Bits.{bit_xor}
use Rattle.strings.specs.Sums.{byte_at, bit_of}
use Rattle.chunks.specs.Chunks.{chunk, cell_at, Masks}
use Rattle.forms_columns.specs.Stacks.{alpha, byte_product, stack_at}
use Rattle.galois.specs.Degrees.{degree_of}
use Rattle.forms_planes.proofs.absorb_planes.Given as goal

-- what is added at byte f
abbrev pub term : ℕ → List ℕ → ℕ → List ℕ → ℕ → ℕ → ℕ
term d both p v f z = bit_xor (bit_of (cell_at both 0 f) z * byte_product d (alpha d p) (byte_at v f)) (bit_of (cell_at both 1 f) z * byte_product d (alpha d (p + 1)) (byte_at v f))

abbrev pub invariant-loop-f : goal.invariant-loop-f
invariant-loop-f l = let t₀ = l.initial.t in let p = l.p in let both = l.both in let masks = l.masks in let t = l.t in let f = l.f in ((d : ℕ) (v : List ℕ) (g z : ℕ) → Masks v masks → byte_at v g < 2 ^ degree_of d → g < f → stack_at d t g z ≡ bit_xor (stack_at d t₀ g z) (term d both p v g z)) × ((q g : ℕ) → f ≤ g → g < chunk → cell_at t q g ≡ cell_at t₀ q g)
