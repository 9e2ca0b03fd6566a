-- `forms_batching::stacks::fill_rest` meets its contract. The invariant: the ends of the first e vectors are there.
-- Assumes nothing.
use Prim.Native.Nat.{ℕ, ◌≤◌, ◌<◌}
use mathlib.Core.Path.{◌≡◌}
use mathlib.Core.List.{List}
use Rattle.protocol.specs.Shape.{most_variables}
use Rattle.lanes.specs.Lanes.{lane_at}
use Rattle.forms_choices.specs.Entries.{up_to}
use Rattle.forms_columns.specs.Stacks.{coordinate_of}
use Rattle.forms_batching.proofs.stacks.fill_rest.Given as goal

abbrev pub Rests : List ℕ → ℕ → ℕ → List ℕ → ℕ → Type 0
Rests T n from vs e = (i c : ℕ) → i < e → from ≤ c → c < most_variables → coordinate_of vs i c ≡ up_to n (λ k. lane_at T k i) c

abbrev pub invariant-loop-e : goal.invariant-loop-e
invariant-loop-e l = let from = l.from in let table = l.table in let n = l.n in let vectors = l.vectors in let e = l.e in Rests table n from vectors e × ((i c : ℕ) → c < from → coordinate_of vectors i c ≡ coordinate_of l.initial.vectors i c)
