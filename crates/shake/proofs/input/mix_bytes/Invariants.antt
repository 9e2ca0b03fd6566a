-- `shake::input::mix_bytes` meets its contract. What is left to add, added to the lanes, gives the result.
-- Assumes nothing.
use Rattle.std.proofs.Common.{◌≡◌, ◌+◌}
use lib.ListN.{drop}
use Rattle.sponge.specs.Sponge.{added_all}
use Rattle.shake.proofs.input.mix_bytes.Given as goal

abbrev pub invariant-loop-i : goal.invariant-loop-i
invariant-loop-i l = added_all l.lanes (l.at + l.i) (drop l.i l.part) ≡ added_all l.initial.lanes l.at l.part
