-- `trees::place_of` meets its contract: the two cases of the place.
-- Assumes nothing.
use mathlib.Core.Path.{sym}
use native.Mathlib.Omega.{arith}
use Rattle.theorems.proofs.LeafLaws.{place-below, place-above}
use Rattle.trees.proofs.place_of.Goals as goal

pub returns-then-j-delta : goal.returns-then-j-delta
returns-then-j-delta c =
    let a = c.args in
    sym (place-below a.delta a.j (omega arith))

pub returns-else-j-delta : goal.returns-else-j-delta
returns-else-j-delta c =
    let a = c.args in
    sym (place-above a.delta a.j (omega arith))
