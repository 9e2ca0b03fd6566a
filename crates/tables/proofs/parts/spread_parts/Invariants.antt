-- `tables::parts::spread_parts` meets its contract. The invariant: lane e of the coordinates of the bytes before `at`
-- is done, the other lanes are as they were.
-- Assumes nothing.
use Prim.Native.Nat.{ℕ, ◌+◌, ◌*◌, ◌-◌, ◌<◌}
use mathlib.Core.Path.{◌≡◌}
use mathlib.Core.List.{List}
use Rattle.protocol.specs.Lists.{block_at}
use Rattle.protocol.specs.Strings.{bit, from_bits}
use Rattle.strings.specs.Sums.{byte_at}
use Rattle.lanes.specs.Lanes.{lanes}
use Rattle.tables.proofs.LaneLaws.{Lane}
use Rattle.tables.proofs.parts.spread_parts.Given as goal

abbrev pub coordinate : List ℕ → ℕ → ℕ → ℕ
coordinate planes w c = from_bits 8 (λ p. bit (block_at planes w p) c)

abbrev pub invariant-loop-at : goal.invariant-loop-at
invariant-loop-at l = Lane (coordinate l.planes l.w) l.table l.e (l.at * 8) × ((c q : ℕ) → q < lanes → (q ≡ l.e → ⊥) → byte_at l.table (c * lanes + q) ≡ byte_at l.initial.table (c * lanes + q))

abbrev pub decreases-loop-at : goal.decreases-loop-at
decreases-loop-at l = l.w - l.at
