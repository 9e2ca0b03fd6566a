-- `forms_batching::stacks::absorb_lanes` meets its contract. The invariant: the stacks below e are changed, and the
-- others are as they were.
-- Assumes nothing.
use Prim.Native.Nat.{ℕ, ◌+◌, ◌*◌, ◌≤◌, ◌<◌}
use mathlib.Core.List.{List}
use mathlib.Core.Path.{◌≡◌}
use lib.Bits.{bit_xor}
use Rattle.galois.specs.Degrees.{degree_of}
use Rattle.strings.specs.Sums.{byte_at, bit_of, xor_sum}
use Rattle.chunks.specs.Chunks.{chunk, cell_at}
use Rattle.forms_choices.specs.Entries.{Weighed}
use Rattle.forms_columns.specs.Stacks.{byte_product, planes, stack_of}
use Rattle.protocol.specs.Shape.{most_variables}
use Rattle.forms_batching.specs.Batched.{VectorsNarrow}
use Rattle.forms_batching.proofs.stacks.absorb_lanes.Given as goal

-- the sum that repetition e weighs
abbrev pub weight : List ℕ → (ℕ → ℕ → ℕ) → ℕ → ℕ → ℕ → ℕ → ℕ
weight S χ m e f z = xor_sum m (λ i. bit_of (cell_at S i f) z * χ e i)

abbrev pub invariant-loop-e : goal.invariant-loop-e
invariant-loop-e l = let stacks₀ = l.initial.stacks in let tau = l.tau in let words = l.words in let groups = l.groups in let sums = l.sums in let vectors = l.vectors in let first = l.first in let r = l.r in let stacks = l.stacks in let e = l.e in ((d : ℕ) (S : List ℕ) (χ : ℕ → ℕ → ℕ) (m q h f z : ℕ) → r ≡ degree_of d → ((q : ℕ) → q < tau → Weighed S (χ q) m sums words groups (q * 8)) → VectorsNarrow d tau vectors → q < e → h < 2 → f < 16 → stack_of d stacks q (h * 16 + f) z ≡ bit_xor (stack_of d stacks₀ q (h * 16 + f) z) (byte_product d (byte_at vectors (q * most_variables + (first + f))) (weight S χ m q (h * 16 + f) z))) × ((q b : ℕ) → e ≤ q → b < planes * chunk → byte_at stacks (q * (planes * chunk) + b) ≡ byte_at stacks₀ (q * (planes * chunk) + b))
