-- `shake::input::mix_words` meets its contract. What is left to add, added to the lanes, gives the result.
-- Assumes nothing.
use Rattle.std.proofs.Common.{◌≡◌, ◌+◌, ◌*◌}
use lib.ListN.{drop}
use Rattle.sponge.specs.Sponge.{added_all}
use Rattle.shake.proofs.input.mix_words.Given as goal

abbrev pub invariant-loop-i : goal.invariant-loop-i
invariant-loop-i l = added_all l.lanes (8 * l.first + l.i * 8) (drop (l.i * 8) l.part) ≡ added_all l.initial.lanes (8 * l.first) l.part
