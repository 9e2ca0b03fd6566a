-- `forms::batch::rows_at` meets its contract. The part has the length asked for.
-- Assumes nothing.
use mathlib.Core.Path.{◌≡◌}
use Prim.Native.Nat.{◌+◌, ◌*◌, ◌-◌}
use native.Mathlib.Nat.{add-sub_cancel_left}
use native.Mathlib.Omega.{arith}
use lib.ListN.{length-take, length-drop}
use Rattle.forms.proofs.batch.rows_at.Goals as goal

pub returns : goal.returns
returns c =
    let a = c.args in
    let e : a.first * a.width + a.count * a.width - a.first * a.width ≡ a.count * a.width = add-sub_cancel_left (a.first * a.width) (a.count * a.width) in (
      rw e,
      rw e (simp (length-take, length-drop) (omega arith)),
    )
