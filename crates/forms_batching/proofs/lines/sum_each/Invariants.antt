-- `forms_batching::lines::sum_each` meets its contract. The invariant: the chunks below i are summed.
-- Assumes nothing.
use Rattle.strings.proofs.Rows.{RowsAre}
use Rattle.chunks.specs.Chunks.{chunk}
use Rattle.forms_batching.specs.Lines.{left_byte}
use Rattle.forms_batching.proofs.lines.sum_each.Given as goal

abbrev pub invariant-loop-i : goal.invariant-loop-i
invariant-loop-i l = RowsAre (λ j. left_byte l.cells l.m l.bits j l.top l.rows) l.sums l.i chunk
