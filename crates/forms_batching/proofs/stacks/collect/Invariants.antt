-- `forms_batching::stacks::collect` meets its contract. The invariant: the rows of the first q sixteens are added, each
-- times its coordinate.
-- Assumes nothing.
use Prim.Native.Nat.{ℕ, ◌+◌, ◌*◌, ◌<◌}
use mathlib.Core.List.{List}
use mathlib.Core.Path.{◌≡◌}
use lib.Bits.{bit_xor}
use Rattle.galois.specs.Degrees.{degree_of}
use Rattle.strings.specs.Sums.{xor_sum}
use Rattle.forms_choices.specs.Entries.{IsBytes, ChosenAll}
use Rattle.forms_columns.specs.Stacks.{coordinate_of, byte_product, stack_of}
use Rattle.forms_batching.specs.Batched.{cell_sum, VectorsNarrow}
use Rattle.forms_batching.proofs.stacks.collect.Given as goal

-- what the sixteen rows q add to a byte of the stack of repetition e
abbrev pub term : ℕ → List ℕ → ℕ → (ℕ → ℕ → ℕ) → List ℕ → ℕ → ℕ → ℕ → ℕ → ℕ → ℕ → ℕ
term d cells m χ vectors top e h f z q = byte_product d (coordinate_of vectors e ((top + q) * 16 + f)) (cell_sum cells m χ e q (h * 16 + f) z)

abbrev pub invariant-loop-q : goal.invariant-loop-q
invariant-loop-q l =
    (d : ℕ) (χ : ℕ → ℕ → ℕ) (e h f z : ℕ) → l.r ≡ degree_of d → IsBytes χ → ChosenAll χ l.s.m l.s.tau l.words → VectorsNarrow d l.s.tau l.vectors → e < l.s.tau → h < 2 → f < 16
    → stack_of d l.stacks e (h * 16 + f) z ≡ bit_xor (stack_of d l.initial.stacks e (h * 16 + f) z) (xor_sum l.q (term d l.cells l.s.m χ l.vectors l.top e h f z))
