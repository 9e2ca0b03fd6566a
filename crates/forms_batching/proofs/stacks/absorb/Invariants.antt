-- `forms_batching::stacks::absorb` meets its contract. The invariant: of the planes below the degree, those below 2·k
-- are added, each times its power. What they come to is `StackLaws`.
-- Assumes nothing.
use Prim.Native.Nat.{ℕ, ◌*◌, ◌^◌, ◌<◌}
use mathlib.Core.List.{List}
use mathlib.Core.Path.{◌≡◌}
use lib.ListN.{length}
use lib.Bits.{bit_xor}
use Rattle.galois.specs.Degrees.{degree_of}
use Rattle.strings.specs.Sums.{byte_at, xor_sum}
use Rattle.chunks.specs.Chunks.{chunk, Masks}
use Rattle.forms_choices.specs.Entries.{up_to, Weighed}
use Rattle.forms_columns.specs.Stacks.{planes, stack_at}
use Rattle.forms_batching.specs.Batched.{plane_times}
use Rattle.forms_batching.proofs.stacks.absorb.Given as goal

abbrev pub invariant-loop-k : goal.invariant-loop-k
invariant-loop-k l =
    (length l.t ≡ planes * chunk)
    × ((d : ℕ) (S v : List ℕ) (χ : ℕ → ℕ) (m f z : ℕ) → l.r ≡ degree_of d → Weighed S χ m l.sums l.words l.groups l.base → Masks v l.masks → byte_at v f < 2 ^ degree_of d → f < chunk
    → stack_at d l.t f z ≡ bit_xor (stack_at d l.initial.t f z) (xor_sum (2 * l.k) (up_to (degree_of d) (plane_times d v S χ m f z))))
