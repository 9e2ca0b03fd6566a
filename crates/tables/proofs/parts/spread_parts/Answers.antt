-- `tables::parts::spread_parts` meets its contract. The invariant: lane e of the coordinates of the bytes before `at`
-- is done, the other lanes are as they were.
-- Assumes nothing.
use Rattle.std.proofs.Common.{◌≡◌, ℕ, ◌+◌, ◌*◌, ◌-◌, ◌<◌, ◌≤◌, List, ◌∙◌, arith}
use Rattle.strings.specs.Sums.{byte_at}
use Rattle.lanes.specs.Lanes.{lanes}
use Rattle.tables.proofs.LaneLaws.{Lane, Filled, Others, lane-part}
use Rattle.tables.proofs.parts.spread_parts.Invariants.{coordinate}
use Rattle.tables.proofs.parts.spread_parts.Goals as goal
use Rattle.tables.proofs.parts.spread_parts.Goals.{else-loop-at-test, then-loop-at-test+else-last-at-gt16}

-- the lane below `at`, the other lanes as in l₀
abbrev Spread : (ℕ → ℕ) → List ℕ → ℕ → List ℕ → ℕ → Type 0
Spread g l₀ e l at = Lane g l e (at * 8) × ((c q : ℕ) → q < lanes → (q ≡ e → ⊥) → byte_at l (c * lanes + q) ≡ byte_at l₀ (c * lanes + q))

-- sixteen bytes more, from `at` on
spread-more : (g : ℕ → ℕ) (l₀ l l' : List ℕ) (e at m : ℕ) → e < lanes → at ≤ m → Filled (λ k. g (at * 8 + k)) l' e (at * 8) 128 → Others l l' e (at * 8) → Spread g l₀ e l m → Spread g l₀ e l' (at + 16)
spread-more g l₀ l l' e at m el le more same done = (
  (λ c h. lane-part g l l' e (at * 8) 128 (m * 8) el (omega arith) more same done.0 c (omega arith)),
  (λ c q h k. same c q h (λ x. absurd (k x)) ∙ done.1 c q h k),
)

pub loop-at-preserved : goal.loop-at-preserved
loop-at-preserved c =
    let a = c.args in
    let l = c.loop-at in
    let call = c.spread_part in
    spread-more (coordinate a.planes.now a.w) a.table.now l.table call.new.table a.e l.at l.at (omega arith) (omega arith) call.ensures.by_index call.ensures.by_index_2 l.invariant

pub returns : goal.returns
returns c =
    let a = c.args in
    let l = c.loop-at in
    let done = c.loop-at-test in
    let call = c.spread_part-2 in
    let g = coordinate a.planes.now a.w in
    let all : (n : ℕ) × (a.w - 16 ≤ n) × Spread g a.table.now a.e done.table n =
    elim done.branch [
      | else-loop-at-test k ↦ rw k.table-is (l.at, omega arith, l.invariant)
      | then-loop-at-test+else-last-at-gt16 k ↦ rw k.table-is (l.at + 16, omega arith, spread-more g a.table.now l.table k.spread_part.new.table a.e l.at l.at (omega arith) (omega arith) k.spread_part.ensures.by_index k.spread_part.ensures.by_index_2 l.invariant)
    ] in
    let whole = spread-more g a.table.now done.table call.new.table a.e (a.w - 16) all.0 (omega arith) all.1 call.ensures.by_index call.ensures.by_index_2 all.2 in
    record { lane_is = (λ d h. whole.0 d (omega arith)); lanes_kept = whole.1 }
