-- `sections::count_at` meets its contract. The loop's invariant: the sections passed end where the next count stands.
-- Assumes nothing.
use mathlib.Core.Path.{◌≡◌}
use lib.ListN.{take}
use Rattle.protocol.specs.Frames.{framed_length}
use Rattle.sections.proofs.count_at.Given as goal

abbrev pub invariant-loop-j : goal.invariant-loop-j
invariant-loop-j l = l.at ≡ framed_length (take l.j l.lengths)
