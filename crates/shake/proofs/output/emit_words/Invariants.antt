-- `shake::output::emit_words` meets its contract. The bytes passed are those of the lanes.
-- Assumes nothing.
use Rattle.std.proofs.Common.{◌≡◌, ◌*◌}
use lib.ListN.{take}
use Rattle.sponge.specs.Lanes.{listed}
use Rattle.sponge.specs.Sponge.{byte_in}
use Rattle.shake.proofs.output.emit_words.Given as goal

abbrev pub invariant-loop-i : goal.invariant-loop-i
invariant-loop-i l = take (l.i * 8) l.out ≡ listed (l.i * 8) (byte_in l.lanes) (8 * l.first)
