-- `forms_folds::mirrors::reflect_all` meets its contract. The invariant: the columns below col are reflected.
-- Assumes nothing.
use Rattle.std.proofs.Common.{ℕ, ◌+◌, ◌*◌, ◌<◌, drop}
use Rattle.forms_folds.specs.Sets.{Reflected}
use Rattle.forms_folds.proofs.mirrors.reflect_all.Given as goal

abbrev pub invariant-loop-col : goal.invariant-loop-col
invariant-loop-col l = (x : ℕ) → 2 * l.piece.first + x < l.col → Reflected l.width (drop l.from l.src) (2 * l.piece.first + x) l.piece.count l.turned x
