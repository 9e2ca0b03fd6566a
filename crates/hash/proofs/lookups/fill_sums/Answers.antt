-- `hash::lookups::fill_sums` meets its contract. The invariant: the groups below g are filled.
-- Assumes nothing.
use Prim.Native.Nat.{ℕ, ◌+◌, ◌*◌, ◌-◌, ◌<◌}
use mathlib.Core.List.{List}
use mathlib.Core.Path.{◌≡◌, refl, ◌∙◌}
use native.Mathlib.Decide.{dec_lt}
use native.Mathlib.Omega.{arith}
use Rattle.lanes.specs.Lanes.{lanes, lane_at}
use Rattle.hash.specs.Entries.{entry_lane, LanesTabled}
use Rattle.hash.proofs.EntryLaws.{entry_is}
use Rattle.hash.proofs.lookups.fill_sums.Goals as goal

-- one group more
tabled-more : (T old new : List ℕ) (g : ℕ) → LanesTabled T old (g * 16) → ((v e : ℕ) → v < 16 → e < lanes → lane_at new (g * 16 + v) e ≡ entry_lane T (g * 16 + v) e)
    → ((q e : ℕ) → q < g * 16 → e < lanes → lane_at new q e ≡ lane_at old q e) → LanesTabled T new ((g + 1) * 16)
tabled-more T old new g tabled made kept q e h k = go (dec_lt q (g * 16))
  where
    go : Dec (q < g * 16) → lane_at new q e ≡ entry_lane T q e
    go (yes l) = kept q e l k ∙ tabled q e l k
    go (no l) = let at : q ≡ g * 16 + (q - g * 16) = omega arith in rw at (made (q - g * 16) e (omega arith) k)

pub loop-g-init : goal.loop-g-init
loop-g-init c = λ q e h. absurd (omega arith)

pub fill_group-requires : goal.fill_group-requires
fill_group-requires c = (omega arith, c.requires.1, refl, omega arith, omega arith, omega arith)

pub loop-g-preserved : goal.loop-g-preserved
loop-g-preserved c =
    let l = c.loop-g in
    let T = c.args.table.now in
    let done = c.fill_group in
    tabled-more T l.sums done.new.sums l.g l.invariant (λ v e h k. done.ensures.group_filled v e h k ∙ entry_is T l.g v e h) done.ensures.by_index

pub returns : goal.returns
returns c =
    let l = c.loop-g in
    λ q e h k. l.invariant q e (omega arith) k
