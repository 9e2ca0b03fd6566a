-- `tables::parts::put_lane` meets its contract. The invariant: the first i coordinates have their lane, the other lanes
-- and the coordinates before are as they were.
-- Assumes nothing.
use borrow.Author.Rules.{rules}
use mathlib.Core.Path.{◌≡◌, refl, sym}
use native.Mathlib.Omega.{arith}
use Rattle.protocol.specs.Strings.{from_bits}
use Rattle.theorems.proofs.StringLaws.{bits_of}
use Rattle.strings.specs.Sums.{byte_at, bit_of}
use Rattle.tables.proofs.LaneLaws.{filled_more, others-still}
use Rattle.tables.proofs.parts.put_lane.Goals as goal

pub loop-i-init : goal.loop-i-init
loop-i-init c = (λ k h. absurd (omega arith), λ d q h k. refl)

pub loop-i-preserved : goal.loop-i-preserved
unfolding bit_of
loop-i-preserved c =
    let a = c.args in
    let l = c.loop-i in
    let v = byte_at a.columns.now l.i in (
      filled_more l.table a.e a.c l.i v (omega arith) (λ k. from_bits 8 (bit_of (byte_at a.columns.now k))) (omega arith) (sym (bits_of 8 v (search rules))) l.invariant.0,
      others-still l.table a.e a.c l.i v (omega arith) a.table.now l.invariant.1,
    )

pub returns : goal.returns
returns c =
    let l = c.loop-i in
    let end : l.i ≡ 128 = omega arith in
    record { by_index = rw end at l.invariant.0; by_index_2 = l.invariant.1 }
