-- `forms_batching::lines::add_masked` meets its contract. The invariant: the first f bytes of each half are added.
-- Assumes nothing.
use Prim.Native.Nat.{ℕ, ◌+◌, ◌%◌}
use mathlib.Core.List.{List}
use lib.Bits.{bit_and}
use Rattle.strings.specs.Sums.{byte_at}
use Rattle.chunks.proofs.HalfLaws.{Halves}
use Rattle.forms_batching.proofs.lines.add_masked.Given as goal

-- what is added to byte k
abbrev pub masked : List ℕ → ℕ → List ℕ → ℕ → ℕ → ℕ
masked cells at bits from k = bit_and (byte_at cells (at + k)) (byte_at bits (from + k % 16))

abbrev pub invariant-loop-f : goal.invariant-loop-f
invariant-loop-f l = Halves (masked l.cells l.at l.bits l.from) l.initial.acc l.acc l.f
