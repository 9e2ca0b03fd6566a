-- `forms_folds::mirrors::turn_part` meets its contract. The part that was lent starts at byte `at` of row k.
-- Assumes nothing.
use Prim.Native.Nat.{◌+◌, ◌*◌, ◌-◌, ◌≤◌}
use mathlib.Core.Path.{◌≡◌, ap, ◌∙◌}
use native.Mathlib.Nat.{add-sub_cancel_left}
use native.Mathlib.Omega.{arith}
use lib.ListN.{length, take, drop, length-take, length-drop}
use Rattle.strings.specs.Sums.{bit_of}
use Rattle.strings.proofs.Rows.{put_before, put_in, put_after}
use Rattle.forms_folds.proofs.mirrors.turn_part.Goals as goal

pub returns : goal.returns
returns c =
    let a = c.args in
    let l = a.turned.now in
    let at = a.k * 160 + a.at in
    let turn = c.turn_rows in
    let r = turn.new.out in
    let e : at + 128 - at ≡ 128 = add-sub_cancel_left at 128 in
    let fits : at + 128 ≤ length l = omega arith in
    let long : length (take 128 (drop at l)) ≡ 128 = simp (length-take, length-drop) (omega arith) in
    let kept : length r ≡ 128 = rw e at turn.auto.out ∙ long in
    rw e (record {
      by_index = (λ k z hk hz. ap (λ x. bit_of x z) (put_in at 128 l r fits kept k hk) ∙ turn.ensures k z hk hz);
      by_index_2 = put_before at 128 l r fits kept;
      by_index_3 = put_after at 128 l r fits kept;
    })
