-- `forms_planes::absorb_byte` meets its contract. The invariant: what the bits below b add is added. What they all come
-- to is `PlaneLaws`.
-- Assumes nothing.
use Prim.Native.Nat.{ℕ, ◌+◌, ◌*◌, ◌<◌}
use mathlib.Core.Path.{◌≡◌}
use lib.Bits.{bit_xor}
use Rattle.strings.specs.Sums.{byte_at, bit_of, xor_sum}
use Rattle.chunks.specs.Chunks.{chunk, cell_at}
use Rattle.forms_columns.specs.Stacks.{stack_at}
use Rattle.forms_planes.proofs.PlaneLaws.{term}
use Rattle.forms_planes.proofs.absorb_byte.Given as goal

abbrev pub invariant-loop-b : goal.invariant-loop-b
invariant-loop-b l = let t₀ = l.initial.t in let p = l.p in let f = l.f in let x = l.x in let y = l.y in let masks = l.masks in let t = l.t in let b = l.b in ((d v z : ℕ) → ((i : ℕ) → i < 8 → byte_at masks (i * chunk + f) ≡ bit_of v i * 255) → stack_at d t f z ≡ bit_xor (stack_at d t₀ f z) (xor_sum b (term d p (bit_of x z) (bit_of y z) v))) × ((q g : ℕ) → (g ≡ f → ⊥) → g < chunk → cell_at t q g ≡ cell_at t₀ q g)
