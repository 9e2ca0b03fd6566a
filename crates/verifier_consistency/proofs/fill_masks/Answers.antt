-- `verifier_consistency::fill_masks` meets its contract. Each element is changed once (`Elementwise`).
-- Assumes nothing.
use Prim.Native.Nat.{◌*◌, ◌<◌}
use mathlib.Core.Path.{refl, ap}
use native.Mathlib.Omega.{arith}
use Rattle.theorems.proofs.StringLaws.{bit_lt}
use Rattle.strings.proofs.Elementwise.{changed, changed_more, changed-all}
use Rattle.verifier_consistency.proofs.fill_masks.Invariants.{change}
use Rattle.verifier_consistency.proofs.fill_masks.Goals as goal

pub loop-i-init : goal.loop-i-init
unfolding changed
loop-i-init c = refl

pub overflow_mul-masks : goal.overflow_mul-masks
overflow_mul-masks c =
    let one : c.bit_at.result < 2 = rw c.bit_at.ensures (bit_lt _ _) in
    omega arith

pub loop-i-preserved : goal.loop-i-preserved
loop-i-preserved c =
    let a = c.args in
    let l = c.loop-i in
    changed_more (change a.u.now) a.masks.now l.masks l.i _ l.invariant (ap (λ q. q * 255) c.bit_at.ensures)

pub returns : goal.returns
returns c i h =
    let a = c.args in
    let l = c.loop-i in
    changed-all (change a.u.now) a.masks.now l.masks l.i l.invariant (omega arith) (omega arith) i (omega arith)
