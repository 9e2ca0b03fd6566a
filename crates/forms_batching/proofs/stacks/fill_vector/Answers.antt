-- `forms_batching::stacks::fill_vector` meets its contract. Each element is changed once (`Elementwise`).
-- Assumes nothing.
use mathlib.Core.Path.{refl}
use native.Mathlib.Omega.{arith}
use Rattle.strings.proofs.Elementwise.{changed, changed_more, changed-all}
use Rattle.forms_batching.proofs.stacks.fill_vector.Invariants.{change}
use Rattle.forms_batching.proofs.stacks.fill_vector.Goals as goal

pub loop-c-init : goal.loop-c-init
unfolding changed
loop-c-init c = refl

pub loop-c-preserved : goal.loop-c-preserved
loop-c-preserved c =
    let a = c.args in
    let l = c.loop-c in
    changed_more (change a.table.now a.n a.e a.from) a.v.now l.v l.c _ l.invariant c.lane_byte.ensures

pub returns : goal.returns
returns c =
    let a = c.args in
    let l = c.loop-c in
    λ i h. changed-all (change a.table.now a.n a.e a.from) a.v.now l.v l.c l.invariant (omega (arith, l.auto.v)) (omega arith) i h
