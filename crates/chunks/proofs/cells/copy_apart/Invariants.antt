-- `chunks::cells::copy_apart` meets its contract. The invariant: the parts below z are copied.
-- Assumes nothing.
use Rattle.std.proofs.Common.{◌+◌, ◌*◌}
use Rattle.strings.specs.Sums.{byte_at}
use Rattle.strings.proofs.Rows.{RowsAre}
use Rattle.chunks.proofs.cells.copy_apart.Given as goal

abbrev pub invariant-loop-z : goal.invariant-loop-z
invariant-loop-z l = RowsAre (λ i f. byte_at l.src (l.from + i * l.width + f)) l.dst l.z l.w
