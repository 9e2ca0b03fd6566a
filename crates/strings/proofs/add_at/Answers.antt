-- `strings::add_at` meets its contract. Each element is changed once (`Elementwise`).
-- Assumes nothing.
use Rattle.std.proofs.Common.{ℕ, ◌+◌, refl, arith}
use lib.Bits.{bit_xor}
use Rattle.strings.specs.Sums.{byte_at}
use Rattle.strings.proofs.Elementwise.{changed, changed_more, changed-all}
use Rattle.strings.proofs.add_at.Goals as goal

pub loop-i-init : goal.loop-i-init
unfolding changed
loop-i-init g c = refl

pub loop-i-preserved : goal.loop-i-preserved
loop-i-preserved g c =
    let a = c.args in
    let l = c.loop-i in
    changed_more (λ (k x : ℕ). bit_xor x (byte_at a.src.now (a.from + k))) a.dst.now l.dst l.i _ l.invariant refl

pub returns : goal.returns
returns g c =
    let a = c.args in
    let l = c.loop-i in
    λ i h. changed-all (λ (k x : ℕ). bit_xor x (byte_at a.src.now (a.from + k))) a.dst.now l.dst l.i l.invariant (omega arith) (omega arith) i (omega arith)
