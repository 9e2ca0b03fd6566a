-- `forms_batching::stacks::lane_byte` meets its contract.
-- Assumes nothing.
use mathlib.Core.Path.{sym}
use native.Mathlib.Omega.{arith}
use Rattle.lanes.specs.Lanes.{lane_at}
use Rattle.forms_choices.proofs.ChoiceLaws.{up-to-first, up-to-past}
use Rattle.forms_batching.proofs.stacks.lane_byte.Goals as goal

pub returns-then-c-n : goal.returns-then-c-n
returns-then-c-n c = let a = c.args in sym (up-to-first a.n (λ k. lane_at a.table.now k a.e) a.c (omega arith))

pub returns-else-c-n : goal.returns-else-c-n
returns-else-c-n c =
    let a = c.args in
    sym (up-to-past a.n (λ k. lane_at a.table.now k a.e) a.c (omega arith))
