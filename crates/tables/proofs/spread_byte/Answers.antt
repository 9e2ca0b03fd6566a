-- `tables::spread_byte` meets its contract. The invariant: the first i coordinates of the byte have their lane, the
-- other lanes and the coordinates before are as they were.
-- Assumes nothing.
use Prim.Native.Nat.{◌+◌, ◌*◌}
use mathlib.Core.Path.{◌≡◌, refl}
use native.Mathlib.Omega.{arith}
use Rattle.protocol.specs.Strings.{from_bits}
use Rattle.strings.specs.Sums.{byte_at, bit_of}
use Rattle.tables.proofs.LaneLaws.{filled_more, others-still}
use Rattle.tables.proofs.spread_byte.Goals as goal

pub loop-i-init : goal.loop-i-init
loop-i-init c = (λ k h. absurd (omega arith), λ c q h k. refl)

pub loop-i-preserved : goal.loop-i-preserved
loop-i-preserved c =
    let a = c.args in
    let l = c.loop-i in
    let v = c.gathered.result in (
      filled_more l.table a.e (a.b * 8) l.i v (omega arith) (λ k. from_bits 8 (λ p. bit_of (byte_at a.planes.now (p * a.w + a.b)) k)) (omega arith) c.gathered.ensures l.invariant.0,
      others-still l.table a.e (a.b * 8) l.i v (omega arith) a.table.now l.invariant.1,
    )

pub returns : goal.returns
returns c =
    let l = c.loop-i in
    let e : l.i ≡ 8 = omega arith in
    record { by_index = rw e at l.invariant.0; by_index_2 = l.invariant.1 }
