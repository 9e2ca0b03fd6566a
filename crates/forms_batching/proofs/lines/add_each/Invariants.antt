-- `forms_batching::lines::add_each` meets its contract. The invariant: the lines below i are added to at the panel's
-- columns, and all else is as it was.
-- Assumes nothing.
use Prim.Native.Nat.{ℕ, ◌+◌, ◌*◌}
use mathlib.Core.List.{List}
use Rattle.strings.specs.Sums.{xor_sum}
use Rattle.chunks.specs.Chunks.{cell_at}
use Rattle.forms_batching.proofs.LineLaws.{PanelAdded}
use Rattle.forms_batching.proofs.lines.add_each.Given as goal

-- the sum of half h of chunk i
abbrev pub half : List ℕ → ℕ → ℕ → ℕ
half S i h = xor_sum 16 (λ f. cell_at S i (h * 16 + f))

abbrev pub invariant-loop-i : goal.invariant-loop-i
invariant-loop-i l = PanelAdded (half l.sums) l.m l.panel l.initial.lines l.lines l.i
