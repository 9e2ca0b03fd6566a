-- `forms_columns::finish` meets its contract. The invariant: the columns of the halves below h are added.
-- Assumes nothing.
use Prim.Native.Nat.{ℕ, ◌+◌, ◌*◌}
use mathlib.Core.List.{List}
use mathlib.Core.Bool.{true, false}
use mathlib.Core.Path.{◌≡◌}
use Rattle.strings.specs.Sums.{byte_at, xor_sum}
use Rattle.lanes.specs.Lanes.{LanesAdded}
use Rattle.forms_columns.specs.Stacks.{byte_product, column_of, coordinate_of}
use Rattle.forms_columns.proofs.finish.Given as goal

-- what column s of a panel adds
abbrev pub quadTerm : ℕ → List ℕ → ℕ → List ℕ → ℕ → ℕ → ℕ
quadTerm d stacks panel vs e s = byte_product d (coordinate_of vs e (panel * 16 + s)) (column_of d stacks e s)

abbrev pub midTerm : ℕ → List ℕ → ℕ → List ℕ → ℕ → ℕ → ℕ
midTerm d stacks panel xs e s = byte_at xs (panel * 16 + s) * column_of d stacks e s

abbrev pub invariant-loop-h : goal.invariant-loop-h
invariant-loop-h l = record {
  quad_added : LanesAdded l.tau (λ e. xor_sum (l.h * 8) (quadTerm l.degree l.stacks l.panel l.vectors e)) l.initial.quad l.quad;
  mid_added : l.polar ≡ true → LanesAdded l.tau (λ e. xor_sum (l.h * 8) (midTerm l.degree l.stacks l.panel l.xs e)) l.initial.mid l.mid;
  mid_unchanged : l.polar ≡ false → l.mid ≡ l.initial.mid;
}
