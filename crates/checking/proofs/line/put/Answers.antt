-- `checking::line::put` meets its contract: the part that was lent is the part's place.
-- Assumes nothing.
use native.Mathlib.Omega.{arith}
use Rattle.checking.proofs.LineLaws.{put_sets}
use Rattle.checking.proofs.line.put.Goals as goal

pub returns-clause-put : goal.returns-clause-put
returns-clause-put c = rw c.copy_from_slice.ensures.after (put_sets c.args.out.now c.args.part.now c.args.at _ (omega arith) (omega arith))
