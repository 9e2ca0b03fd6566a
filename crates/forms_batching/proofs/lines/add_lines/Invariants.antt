-- `forms_batching::lines::add_lines` meets its contract. The invariant: the products of the coordinates of the first g
-- tables are added, those from the n-th on as 0.
-- Assumes nothing.
use Prim.Native.Nat.{ℕ, ◌+◌, ◌*◌, ◌<◌}
use mathlib.Core.List.{List}
use mathlib.Core.Path.{◌≡◌}
use lib.Bits.{bit_xor}
use Rattle.protocol.specs.Shape.{most_variables}
use Rattle.strings.specs.Sums.{byte_at, xor_sum}
use Rattle.forms_choices.specs.Entries.{up_to, IsBytes, ChosenAll}
use Rattle.forms_columns.specs.Stacks.{byte_product}
use Rattle.forms_batching.specs.Lines.{chunk_bits, line_sum}
use Rattle.forms_batching.proofs.lines.add_lines.Given as goal

-- what coordinate c gives
abbrev pub term : ℕ → List ℕ → ℕ → (ℕ → ℕ → ℕ) → List ℕ → ℕ → ℕ → ℕ
term d L m χ vs e c = byte_product d (byte_at vs (e * most_variables + c)) (line_sum L m χ e c)

abbrev pub invariant-loop-g : goal.invariant-loop-g
invariant-loop-g l =
    (χ : ℕ → ℕ → ℕ) (e : ℕ) → IsBytes χ → ChosenAll χ l.s.m l.s.tau l.words → e < l.s.tau
    → byte_at l.mid e ≡ bit_xor (byte_at l.initial.mid e) (xor_sum (l.g * chunk_bits) (up_to l.s.n (term l.s.degree l.lines l.s.m χ l.vectors e)))
