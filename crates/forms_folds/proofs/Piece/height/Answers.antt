-- `forms_folds::Piece::height` meets its contract.
-- Assumes nothing.
use mathlib.Core.Path.{sym}
use native.Mathlib.Omega.{arith}
use Rattle.forms_folds.proofs.PlaceLaws.{height_tall, height_flat}
use Rattle.forms_folds.proofs.Piece.height.Goals as goal

pub returns-then-self : goal.returns-then-self
returns-then-self c = let a = c.args in sym (height_tall a.self.first a.self.count a.p (omega arith))

pub returns-else-self : goal.returns-else-self
returns-else-self c = let a = c.args in sym (height_flat a.self.first a.self.count a.p (omega arith))
