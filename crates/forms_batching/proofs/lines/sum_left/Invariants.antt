-- `forms_batching::lines::sum_left` meets its contract. The invariant: the rows of the first q sixteens are added.
-- Assumes nothing.
use Prim.Native.Nat.{ℕ, ◌+◌, ◌*◌, ◌%◌, ◌<◌}
use mathlib.Core.List.{List}
use mathlib.Core.Path.{◌≡◌}
use lib.Bits.{bit_and}
use Rattle.strings.specs.Sums.{byte_at, xor_sum}
use Rattle.chunks.specs.Chunks.{chunk}
use Rattle.forms_batching.proofs.lines.sum_left.Given as goal

-- what the sixteen rows q add to byte k
abbrev pub masked : List ℕ → List ℕ → ℕ → ℕ → ℕ → ℕ → ℕ → ℕ
masked cells bits m top i k q = bit_and (byte_at cells ((q * m + i) * chunk + k)) (byte_at bits ((top + q) * 16 + k % 16))

abbrev pub invariant-loop-q : goal.invariant-loop-q
invariant-loop-q l = let acc = l.acc in let q = l.q in ((k : ℕ) → k < chunk → byte_at acc k ≡ xor_sum q (masked l.cells l.bits l.m l.top l.i k))
