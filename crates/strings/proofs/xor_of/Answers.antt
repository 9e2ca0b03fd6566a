-- `strings::xor_of` meets its contract. Each element is changed once (`Elementwise`).
-- Assumes nothing.
use Prim.Native.Nat.{ℕ}
use mathlib.Core.Path.{refl}
use lib.Bits.{bit_xor}
use native.Mathlib.Omega.{arith}
use Rattle.strings.specs.Sums.{byte_at}
use Rattle.strings.proofs.Elementwise.{changed, changed_more, changed-all}
use Rattle.strings.proofs.xor_of.Goals as goal

pub loop-i-init : goal.loop-i-init
unfolding changed
loop-i-init c = refl

pub loop-i-preserved : goal.loop-i-preserved
loop-i-preserved c =
    let a = c.args in
    let l = c.loop-i in
    changed_more (λ (k x : ℕ). bit_xor (byte_at a.a.now k) (byte_at a.b.now k)) a.dst.now l.dst l.i _ l.invariant refl

pub returns : goal.returns
returns c =
    let a = c.args in
    let l = c.loop-i in
    changed-all (λ (k x : ℕ). bit_xor (byte_at a.a.now k) (byte_at a.b.now k)) a.dst.now l.dst l.i l.invariant (omega arith) (omega arith)
