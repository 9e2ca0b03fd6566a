-- `shake::output::emit_words` meets its contract. The bytes passed are those of the lanes.
-- Assumes nothing.
use Prim.Native.Nat.{◌+◌, ◌*◌, ◌-◌}
use mathlib.Core.Path.{◌≡◌, refl, sym, ap, ◌∙◌}
use native.Mathlib.Omega.{arith}
use lib.ListN.{length}
use lib.Seq.{take_all}
use Rattle.sponge.specs.Lanes.{listed}
use Rattle.sponge.specs.Sponge.{byte_in}
use Rattle.shake.proofs.EmitLaws.{words_step}
use Rattle.shake.proofs.output.emit_words.Goals as goal

pub loop-i-init : goal.loop-i-init
unfolding listed
loop-i-init c = refl

pub loop-i-preserved : goal.loop-i-preserved
loop-i-preserved c =
    let a = c.args in
    let l = c.loop-i in
    let e : l.i * 8 + 8 - l.i * 8 ≡ 8 = omega arith in
    let r = c.copy_from_slice.new.self in
    let is = c.copy_from_slice.ensures.after ∙ c.to_le_bytes.ensures in
    rw e (words_step a.lanes.now l.out r a.first l.i (omega arith) is (ap length is) l.invariant)

pub returns : goal.returns
returns c =
    let a = c.args in
    let l = c.loop-i in
    let all : l.i * 8 ≡ length a.out.now = omega arith in
    sym (take_all (l.i * 8) l.out (omega arith)) ∙ l.invariant ∙ ap (λ n. listed n (byte_in a.lanes.now) (8 * a.first)) all
