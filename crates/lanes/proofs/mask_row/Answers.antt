-- `lanes::mask_row` meets its contract. Each element is changed once (`Elementwise`).
-- Assumes nothing.
use Prim.Native.Nat.{ℕ, ◌+◌}
use mathlib.Core.List.{List}
use mathlib.Core.Path.{◌≡◌, refl, ap, ◌∙◌}
use native.Mathlib.Omega.{arith}
use lib.ListN.{length-replicate}
use Rattle.strings.specs.Sums.{byte_at}
use Rattle.strings.proofs.Elementwise.{changed, changed_more, changed-at}
use Rattle.lanes.specs.Lanes.{lane_at}
use Rattle.lanes.proofs.mask_row.Invariants.{change}
use Rattle.lanes.proofs.mask_row.Goals as goal

pub loop-e-init : goal.loop-e-init
unfolding changed
loop-e-init c = refl

pub loop-e-preserved : goal.loop-e-preserved
loop-e-preserved c =
    let a = c.args in
    let l = c.loop-e in
    changed_more (change a.table.now a.i a.s) _ l.row l.e _ l.invariant (ap (λ (x : ℕ). lane_at a.table.now (x + a.i) l.e) c.mask_at.ensures)

pub returns : goal.returns
returns c e h =
    let a = c.args in
    let l = c.loop-e in
    let end : l.e ≡ a.s.tau = omega arith in
    ap (λ (d : List ℕ). byte_at d e) (rw end at l.invariant) ∙ changed-at (change a.table.now a.i a.s) _ a.s.tau e (simp length-replicate c.requires.0.0) h
