-- `tables::spread_byte` meets its contract. The invariant: the first i coordinates of the byte have their lane, the
-- other lanes and the coordinates before are as they were.
-- Assumes nothing.
use Prim.Native.Nat.{◌+◌, ◌*◌}
use Rattle.protocol.specs.Strings.{from_bits}
use Rattle.strings.specs.Sums.{byte_at, bit_of}
use Rattle.tables.proofs.LaneLaws.{Filled, Others}
use Rattle.tables.proofs.spread_byte.Given as goal

abbrev pub invariant-loop-i : goal.invariant-loop-i
invariant-loop-i l = Filled (λ k. from_bits 8 (λ p. bit_of (byte_at l.planes (p * l.w + l.b)) k)) l.table l.e (l.b * 8) l.i × Others l.initial.table l.table l.e (l.b * 8)
