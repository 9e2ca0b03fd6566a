-- `strings::parity::shared_words` meets its contract. The invariant: the parity of the ones of the sum is that of the
-- ones shared in the first i words.
-- Assumes nothing.
use Prim.Native.Nat.{◌*◌, ◌%◌}
use mathlib.Core.Path.{◌≡◌}
use lib.Count.{ones}
use Rattle.strings.specs.Shared.{shared}
use Rattle.strings.proofs.parity.shared_words.Given as goal

abbrev pub invariant-loop-i : goal.invariant-loop-i
invariant-loop-i l = ones l.sum % 2 ≡ shared (l.i * 8) l.row l.x % 2
