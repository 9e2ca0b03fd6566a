-- `forms_columns::gather_row` meets its contract. Each element is changed once (`Elementwise`).
-- Assumes nothing.
use Prim.Native.Nat.{ℕ, ◌+◌, ◌*◌}
use mathlib.Core.List.{List}
use mathlib.Core.Path.{◌≡◌}
use Rattle.strings.specs.Sums.{byte_at, xor_sum}
use Rattle.strings.proofs.Elementwise.{changed}
use Rattle.chunks.specs.Chunks.{chunk}
use Rattle.forms_columns.specs.Stacks.{planes}
use Rattle.forms_columns.proofs.gather_row.Given as goal

abbrev pub change : List ℕ → ℕ → ℕ → ℕ → ℕ
change stacks at k x = xor_sum 16 (λ f. byte_at stacks (k * (planes * chunk) + (at + f)))

abbrev pub invariant-loop-e : goal.invariant-loop-e
invariant-loop-e l = l.out ≡ changed (change l.stacks l.at) l.initial.out l.e
