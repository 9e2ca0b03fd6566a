-- `forms_columns::gather_at` meets its contract. The part that was lent is row s, and the others stand outside it.
-- Assumes nothing.
use Prim.Native.Nat.{◌+◌, ◌*◌, ◌-◌, ◌≤◌}
use mathlib.Core.Path.{◌≡◌, ◌∙◌}
use native.Mathlib.Nat.{add-sub_cancel_left}
use native.Mathlib.Omega.{arith}
use lib.ListN.{length, take, drop, length-take, length-drop}
use Rattle.strings.proofs.Rows.{put_in, put_other}
use Rattle.lanes.specs.Lanes.{lanes}
use Rattle.forms_columns.proofs.gather_at.Goals as goal

pub returns : goal.returns
returns c =
    let a = c.args in
    let l = a.rows.now in
    let at = a.s * lanes in
    let r = c.gather_row.new.out in
    let e : at + lanes - at ≡ lanes = add-sub_cancel_left at lanes in
    let fits : at + lanes ≤ length l = omega arith in
    let long : length (take lanes (drop at l)) ≡ lanes = simp (length-take, length-drop) (omega arith) in
    let kept : length r ≡ lanes = rw e at c.gather_row.auto.out ∙ long in
    rw e (record { by_index = (λ i h. put_in at lanes l r fits kept i (omega arith) ∙ c.gather_row.ensures i h); rows_kept = put_other a.s lanes l r fits kept })
