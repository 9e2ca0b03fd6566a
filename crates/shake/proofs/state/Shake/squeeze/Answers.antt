-- `shake::Shake::squeeze` meets its contract. The bytes passed are the first of those to give, and the state is the one
-- after them.
-- Assumes nothing.
use Rattle.std.proofs.Common.{◌≡◌, ◌+◌, ◌%◌, ◌-◌, ◌≤◌, ◌++◌, length, refl, sym, ap, ◌∙◌, rules, arith}
use mathlib.Core.Path.{ap₂}
use lib.ListN.{take, drop, length-take, length-drop}
use lib.Seq.{take_all}
use borrow.Rule.Slice.PartMut.{same_len_mid}
use Rattle.std.proofs.lemmas.Slice.{take-put_mid}
use Rattle.sponge.specs.Lanes.{listed}
use Rattle.sponge.specs.Sponge.{byte_in, rate}
use Rattle.shake.specs.Pieces.{given, after}
use Rattle.shake.specs.Held.{held}
use Rattle.shake.proofs.PieceLaws.{settled_lt}
use Rattle.shake.proofs.EmitLaws.{given-step, after-step}
use Rattle.shake.proofs.state.Shake.squeeze.Goals as goal

pub loop-i-init : goal.loop-i-init
unfolding given after
loop-i-init c = record { within = search rules; inside = search rules; bytes = refl; state = refl }

pub loop-i-preserved : goal.loop-i-preserved
loop-i-preserved c =
    let l = c.loop-i in
    let n = c.min-n.result in
    let h = held c.args.self in
    let room : l.at + n ≤ rate = omega arith in
    let within : l.i + n ≤ length l.out = omega arith in
    let e : l.i + n - l.i ≡ n = omega arith in
    let long : length (take n (drop l.i l.out)) ≡ n = simp (length-take, length-drop) (omega arith) in
    let r = c.emit.new.out in
    let same : length r ≡ n = rw e at c.emit.auto.out ∙ long in
    let bytes : r ≡ listed n (byte_in l.lanes) l.at = rw e at c.emit.ensures ∙ ap (λ k. listed k (byte_in l.lanes) l.at) long in
    let now-is = c.settle-at.ensures in
    record {
      within = rw e (omega (arith, same_len_mid l.i n l.out r (same ∙ sym long), within));
      inside = omega (arith, ap (λ g. g.1) now-is, settled_lt l.lanes (l.at + n) room);
      bytes = rw e (take-put_mid l.i n l.out r (l.i + n) (omega arith) (omega arith)) ∙ ap₂ ◌++◌ l.invariant.bytes bytes ∙ given-step h l.lanes l.at l.i n l.invariant.state l.invariant.inside room;
      state = now-is ∙ after-step h l.lanes l.at l.i n l.invariant.state l.invariant.inside room;
    }

pub returns : goal.returns
returns c =
    let l = c.loop-i in
    let h = held c.args.self in
    let end : l.i ≡ length c.args.out.now = omega arith in
    let place : l.at % rate ≡ l.at = omega (arith, l.invariant.inside) in
    record {
      bytes = sym (take_all l.i l.out (omega arith)) ∙ l.invariant.bytes ∙ ap (given h) end;
      state = ap (λ k. (l.lanes, k)) place ∙ l.invariant.state ∙ ap (after h) end;
      inside = l.invariant.inside;
    }
