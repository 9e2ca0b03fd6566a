-- `shake::output::emit_bytes` meets its contract. The bytes passed are those of the lanes.
-- Assumes nothing.
use mathlib.Core.List.{[], ◌∷◌, ◌++◌}
use native.Mathlib.Numerals.{add-one}
use lib.ListN.{length, get_or, set, take}
use lib.Seq.{take-suc-set, take_all}
use Rattle.sponge.specs.Lanes.{listed}
use Rattle.sponge.specs.Sponge.{byte_in}
use Rattle.shake.proofs.PieceLaws.{listed_next}
use Rattle.shake.proofs.EmitLaws.{lane-byte}
use Prim.Native.Nat.{◌+◌, ◌%◌}
use mathlib.Core.Path.{◌≡◌, refl, sym, ap, ◌∙◌}
use native.Mathlib.Omega.{arith}
use Rattle.shake.proofs.output.emit_bytes.Goals as goal

pub loop-i-init : goal.loop-i-init
unfolding listed
loop-i-init c = refl

pub loop-i-preserved : goal.loop-i-preserved
loop-i-preserved c =
    let a = c.args in
    let l = c.loop-i in
    let f = byte_in a.lanes.now in
    let j = a.at + l.i in
    let byte = ap (λ b. get_or b (j % 8) 0) c.to_le_bytes.ensures ∙ lane-byte a.lanes.now j in
    ap (λ b. take (l.i + 1) (set l.out l.i b)) byte
    ∙ ap (λ k. take k (set l.out l.i (f (a.at + l.i)))) (add-one l.i) ∙ take-suc-set l.out l.i (f (a.at + l.i)) (omega arith)
    ∙ ap (λ s. s ++ (f (a.at + l.i) ∷ [])) l.invariant ∙ sym (listed_next l.i f a.at)

pub returns : goal.returns
returns c =
    let a = c.args in
    let l = c.loop-i in
    let all : l.i ≡ length a.out.now = omega arith in
    sym (take_all l.i l.out (omega arith)) ∙ l.invariant ∙ ap (λ n. listed n (byte_in a.lanes.now) a.at) all
