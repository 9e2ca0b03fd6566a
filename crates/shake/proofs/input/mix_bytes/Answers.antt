-- `shake::input::mix_bytes` meets its contract. What is left to add, added to the lanes, gives the result.
-- Assumes nothing.
use Prim.Native.Nat.{◌+◌}
use mathlib.Core.Path.{ap, ◌∙◌}
use native.Mathlib.Nat.{add-zero}
use native.Mathlib.Omega.{arith}
use Rattle.sponge.specs.Sponge.{added_all}
use Rattle.shake.proofs.MixLaws.{byte_step, none_left}
use Rattle.shake.proofs.input.mix_bytes.Goals as goal

pub loop-i-init : goal.loop-i-init
loop-i-init c = ap (λ j. added_all c.args.lanes.now j c.args.part.now) (add-zero c.args.at)

pub loop-i-preserved : goal.loop-i-preserved
loop-i-preserved c =
    let a = c.args in
    let l = c.loop-i in
    byte_step a.part.now l.lanes a.at l.i c.from.result (omega arith) c.from.ensures (c.type_inv.part l.i).fits ∙ l.invariant

pub returns : goal.returns
returns c =
    let l = c.loop-i in
    none_left c.args.part.now l.lanes (c.args.at + l.i) l.i (omega arith) ∙ l.invariant
