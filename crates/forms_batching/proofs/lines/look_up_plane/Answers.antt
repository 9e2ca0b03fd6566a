-- `forms_batching::lines::look_up_plane` meets its contract. The part that was lent is plane p, and the others stand
-- outside it.
-- Assumes nothing.
use Prim.Native.Nat.{◌+◌, ◌*◌, ◌-◌, ◌≤◌}
use mathlib.Core.Path.{◌≡◌, ◌∙◌}
use native.Mathlib.Nat.{add-sub_cancel_left}
use native.Mathlib.Omega.{arith}
use lib.ListN.{length, take, drop, length-take, length-drop}
use Rattle.strings.proofs.Rows.{put_in, put_other}
use Rattle.chunks.specs.Chunks.{chunk}
use Rattle.forms_batching.proofs.lines.look_up_plane.Goals as goal

pub returns : goal.returns
returns c =
    let a = c.args in
    let l = a.planes.now in
    let at = a.p * chunk in
    let done = c.look_up in
    let r = done.new.out in
    let e : at + chunk - at ≡ chunk = add-sub_cancel_left at chunk in
    let fits : at + chunk ≤ length l = omega arith in
    let long : length (take chunk (drop at l)) ≡ chunk = simp (length-take, length-drop) (omega arith) in
    let kept : length r ≡ chunk = rw e at done.auto.out ∙ long in
    rw e (record { by_index = (λ f h. put_in at chunk l r fits kept f h ∙ done.ensures f h); rows_kept = put_other a.p chunk l r fits kept })
