-- `forms_batching::stacks::turn_sixteens` meets its contract. The invariant: the coordinates of the first c sixteens
-- are there.
-- Assumes nothing.
use native.Mathlib.Omega.{arith}
use Rattle.forms_batching.proofs.VectorLaws.{sixteen_more}
use Rattle.forms_batching.proofs.stacks.turn_sixteens.Goals as goal

pub loop-c-init : goal.loop-c-init
loop-c-init c = λ e k he h. absurd (omega arith)

pub turn_sixteen-requires : goal.turn_sixteen-requires
turn_sixteen-requires c = (c.requires.0, omega (arith, c.loop-c-test.true, c.requires), omega (arith, c.loop-c-test.true, c.requires))

pub loop-c-preserved : goal.loop-c-preserved
loop-c-preserved c =
    let a = c.args in
    let l = c.loop-c in
    let done = c.turn_sixteen in
    sixteen_more a.tau l.c a.table.now l.vectors done.new.vectors (omega (arith, c.loop-c-test.true, c.requires.2)) done.ensures.sixteen_turned done.ensures.beside_sixteen l.invariant

pub returns : goal.returns
returns c e k he h = c.loop-c.invariant e k he (omega arith)
