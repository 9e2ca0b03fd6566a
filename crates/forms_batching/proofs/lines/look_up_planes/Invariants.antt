-- `forms_batching::lines::look_up_planes` meets its contract. The invariant: the planes below p are looked up.
-- Assumes nothing.
use Prim.Native.Nat.{ℕ, ◌+◌}
use mathlib.Core.List.{List}
use Rattle.strings.proofs.Rows.{RowsAre}
use Rattle.chunks.specs.Chunks.{chunk}
use Rattle.forms_choices.specs.Entries.{looked_up}
use Rattle.forms_batching.proofs.lines.look_up_planes.Given as goal

-- byte f of what the words of plane p choose
abbrev pub looked : List ℕ → List ℕ → ℕ → ℕ → ℕ → ℕ → ℕ
looked words sums base groups p f = looked_up sums words (base + p) groups f

abbrev pub invariant-loop-p : goal.invariant-loop-p
invariant-loop-p l = RowsAre (looked l.words l.sums l.base l.groups) l.planes l.p chunk
