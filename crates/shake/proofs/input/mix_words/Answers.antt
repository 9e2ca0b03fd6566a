-- `shake::input::mix_words` meets its contract. What is left to add, added to the lanes, gives the result.
-- Assumes nothing.
use Prim.Native.Nat.{◌+◌, ◌*◌}
use mathlib.Core.Path.{ap, ◌∙◌}
use native.Mathlib.Nat.{add-zero}
use native.Mathlib.Omega.{arith}
use Rattle.sponge.specs.Sponge.{added_all}
use Rattle.shake.proofs.MixLaws.{word-step, none_left}
use Rattle.shake.proofs.input.mix_words.Goals as goal

pub loop-i-init : goal.loop-i-init
loop-i-init c = ap (λ j. added_all c.args.lanes.now j c.args.part.now) (add-zero (8 * c.args.first))

pub loop-i-preserved : goal.loop-i-preserved
loop-i-preserved c =
    let a = c.args in
    let l = c.loop-i in
    word-step a.part.now l.lanes (λ i. (c.type_inv.part i).fits) a.first l.i c.word_at.result (omega arith) (omega arith) c.word_at.ensures ∙ l.invariant

pub returns : goal.returns
returns c =
    let a = c.args in
    let l = c.loop-i in
    none_left a.part.now l.lanes (8 * a.first + l.i * 8) (l.i * 8) (omega arith) ∙ l.invariant
