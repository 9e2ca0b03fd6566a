-- `hash::vectors::start_of` meets its contract.
-- Assumes nothing.
use mathlib.Core.Path.{refl}
use native.Mathlib.Omega.{arith}
use Rattle.hash.proofs.vectors.start_of.Goals as goal

pub returns-then-from-eq0 : goal.returns-then-from-eq0
returns-then-from-eq0 c = ((λ z. c.row_of.ensures), λ pos. absurd (omega arith))

pub returns-else-from-eq0 : goal.returns-else-from-eq0
returns-else-from-eq0 c = ((λ z. absurd (omega arith)), λ pos. refl)
