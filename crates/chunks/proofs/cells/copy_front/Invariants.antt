-- `chunks::cells::copy_front` meets its contract. Each element is changed once (`Elementwise`).
-- Assumes nothing.
use Rattle.std.proofs.Common.{◌≡◌, ℕ, ◌+◌, List}
use Rattle.strings.specs.Sums.{byte_at}
use Rattle.strings.proofs.Elementwise.{changed}
use Rattle.chunks.proofs.cells.copy_front.Given as goal

abbrev pub change : List ℕ → ℕ → ℕ → ℕ → ℕ
change src from k x = byte_at src (from + k)

abbrev pub invariant-loop-f : goal.invariant-loop-f
invariant-loop-f l = l.dst ≡ changed (change l.src l.from) l.initial.dst l.f
