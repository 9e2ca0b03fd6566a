-- `lanes::accumulate_in` meets its contract. Each element is changed once (`Elementwise`), by the product that
-- `multiply` ensures.
-- Assumes nothing.
use mathlib.Core.Path.{refl, ap}
use lib.Bits.{bit_xor}
use native.Mathlib.Omega.{arith}
use Rattle.strings.specs.Sums.{byte_at}
use Rattle.strings.proofs.Elementwise.{changed, changed_more, changed-all}
use Rattle.lanes.proofs.accumulate_in.Invariants.{change}
use Rattle.lanes.proofs.accumulate_in.Goals as goal

pub loop-e-init : goal.loop-e-init
unfolding changed
loop-e-init g c = refl

pub loop-e-preserved : goal.loop-e-preserved
loop-e-preserved g c =
    let a = c.args in
    let l = c.loop-e in
    changed_more (change g.F.Field.coded a.f.now a.t.now) a.acc.now l.acc l.e _ l.invariant (ap (bit_xor (byte_at l.acc l.e)) c.multiply.ensures)

pub returns : goal.returns
returns g c i h =
    let a = c.args in
    let l = c.loop-e in
    changed-all (change g.F.Field.coded a.f.now a.t.now) a.acc.now l.acc l.e l.invariant (omega arith) (omega arith) i (omega arith)
