-- `chunks::masks::fill_mask` meets its contract. Each element is changed once (`Elementwise`).
-- Assumes nothing.
use Rattle.std.proofs.Common.{refl, arith}
use Rattle.strings.specs.Sums.{bit_of}
use Rattle.strings.proofs.Elementwise.{changed, changed_more, changed-all}
use Rattle.chunks.proofs.masks.fill_mask.Invariants.{change}
use Rattle.chunks.proofs.masks.fill_mask.Goals as goal

pub loop-f-init : goal.loop-f-init
unfolding changed
loop-f-init c = refl

pub loop-f-preserved : goal.loop-f-preserved
unfolding bit_of
loop-f-preserved c =
    let a = c.args in
    let l = c.loop-f in
    changed_more (change a.v.now a.b) a.out.now l.out l.f _ l.invariant refl

pub returns : goal.returns
returns c i h =
    let a = c.args in
    let l = c.loop-f in
    changed-all (change a.v.now a.b) a.out.now l.out l.f l.invariant (omega arith) (omega arith) i (omega arith)
