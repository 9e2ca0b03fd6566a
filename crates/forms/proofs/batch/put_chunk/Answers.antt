-- `forms::batch::put_chunk` meets its contract. The part that was lent is chunk r, and the others stand outside it.
-- Assumes nothing.
use Prim.Native.Nat.{◌+◌, ◌*◌, ◌-◌, ◌≤◌}
use mathlib.Core.Path.{◌≡◌, ◌∙◌}
use native.Mathlib.Nat.{add-sub_cancel_left}
use native.Mathlib.Omega.{arith}
use lib.ListN.{length, take, drop, length-take, length-drop}
use Rattle.strings.proofs.Rows.{put_in, put_other}
use Rattle.chunks.specs.Chunks.{chunk}
use Rattle.forms.proofs.batch.put_chunk.Goals as goal

pub returns : goal.returns
returns c =
    let a = c.args in
    let l = a.lines.now in
    let at = a.r * chunk in
    let done = c.copy_front in
    let r = done.new.dst in
    let e : at + chunk - at ≡ chunk = add-sub_cancel_left at chunk in
    let fits : at + chunk ≤ length l = c.requires.0 in
    let long : length (take chunk (drop at l)) ≡ chunk = simp (length-take, length-drop) (omega arith) in
    let kept : length r ≡ chunk = rw e at done.auto.dst ∙ long in
    rw e (record { by_index = (λ f h. put_in at chunk l r fits kept f (omega (arith, h, c.requires.2)) ∙ done.ensures.by_index f h); rows_kept = put_other a.r chunk l r fits kept })
