-- `forms::batch::put_lines` meets its contract. The invariant: the bytes of the first g tables are there.
-- Assumes nothing.
use Rattle.std.proofs.Common.{ℕ, List, ◌≡◌, ◌+◌, ◌*◌, ◌<◌}
use Rattle.strings.specs.Sums.{byte_at}
use Rattle.chunks.specs.Chunks.{chunk}
use Rattle.forms_batching.specs.Lines.{line_byte}
use Rattle.forms.proofs.batch.put_lines.Given as goal

-- the lines have the bytes of their first g tables
abbrev pub Put : ℕ → ℕ → List ℕ → List ℕ → ℕ → Type 0
Put m w b L g = (i k : ℕ) → i < m → k < w → k < g * chunk → line_byte L m i k ≡ byte_at b (i * w + k)

abbrev pub invariant-loop-g : goal.invariant-loop-g
invariant-loop-g l = Put l.m l.width l.b l.lines l.g
