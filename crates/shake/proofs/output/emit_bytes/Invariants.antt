-- `shake::output::emit_bytes` meets its contract. The bytes passed are those of the lanes.
-- Assumes nothing.
use Rattle.sponge.specs.Lanes.{listed}
use Rattle.sponge.specs.Sponge.{byte_in}
use mathlib.Core.Path.{◌≡◌}
use lib.ListN.{take}
use Rattle.shake.proofs.output.emit_bytes.Given as goal

abbrev pub invariant-loop-i : goal.invariant-loop-i
invariant-loop-i l = take l.i l.out ≡ listed l.i (byte_in l.lanes) l.at
