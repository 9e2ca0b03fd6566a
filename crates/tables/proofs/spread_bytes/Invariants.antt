-- `tables::spread_bytes` meets its contract. The invariant: lane e of the coordinates of the first b bytes is done, the
-- other lanes are as they were.
-- Assumes nothing.
use Prim.Native.Nat.{ℕ, ◌+◌, ◌*◌, ◌<◌}
use mathlib.Core.Path.{◌≡◌}
use Rattle.protocol.specs.Lists.{block_at}
use Rattle.protocol.specs.Strings.{bit, from_bits}
use Rattle.strings.specs.Sums.{byte_at}
use Rattle.lanes.specs.Lanes.{lanes}
use Rattle.tables.proofs.LaneLaws.{Lane}
use Rattle.tables.proofs.spread_bytes.Given as goal

abbrev pub invariant-loop-b : goal.invariant-loop-b
invariant-loop-b l = let e = l.e in let planes = l.planes in let w = l.w in let table = l.table in let b = l.b in Lane (λ c. from_bits 8 (λ p. bit (block_at planes w p) c)) table e (b * 8) × ((c q : ℕ) → q < lanes → (q ≡ e → ⊥) → byte_at table (c * lanes + q) ≡ byte_at l.initial.table (c * lanes + q))
