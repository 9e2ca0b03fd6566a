-- `forms_batching::stacks::fill_vector` meets its contract. Each element is changed once (`Elementwise`).
-- Assumes nothing.
use Prim.Native.Nat.{ℕ, ◌+◌}
use mathlib.Core.List.{List}
use mathlib.Core.Path.{◌≡◌}
use Rattle.strings.proofs.Elementwise.{changed}
use Rattle.lanes.specs.Lanes.{lane_at}
use Rattle.forms_choices.specs.Entries.{up_to}
use Rattle.forms_batching.proofs.stacks.fill_vector.Given as goal

abbrev pub change : List ℕ → ℕ → ℕ → ℕ → ℕ → ℕ → ℕ
change table n e from c x = up_to n (λ k. lane_at table k e) (from + c)

abbrev pub invariant-loop-c : goal.invariant-loop-c
invariant-loop-c l = l.v ≡ changed (change l.table l.n l.e l.from) l.initial.v l.c
