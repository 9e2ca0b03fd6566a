-- `tables::parts::put_lane` meets its contract. The invariant: the first i coordinates have their lane, the other lanes
-- and the coordinates before are as they were.
-- Assumes nothing.
use Rattle.protocol.specs.Strings.{from_bits}
use Rattle.strings.specs.Sums.{byte_at, bit_of}
use Rattle.tables.proofs.LaneLaws.{Filled, Others}
use Rattle.tables.proofs.parts.put_lane.Given as goal

abbrev pub invariant-loop-i : goal.invariant-loop-i
invariant-loop-i l = Filled (λ k. from_bits 8 (bit_of (byte_at l.columns k))) l.table l.e l.c l.i × Others l.initial.table l.table l.e l.c
