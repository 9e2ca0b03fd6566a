-- `forms_choices::picks::choose_both` meets its contract. The invariant: the fives below g of both sixteens are chosen.
-- Assumes nothing.
use Rattle.std.proofs.Common.{◌≡◌, ◌+◌, ◌*◌, length-set, arith}
use Rattle.forms_choices.specs.Entries.{choice, in_rows}
use Rattle.forms_choices.proofs.PickLaws.{both_more, both-all}
use Rattle.forms_choices.proofs.picks.choose_both.Goals as goal

pub bounds-plane-g-in-loop-g : goal.bounds-plane-g-in-loop-g
bounds-plane-g-in-loop-g c = simp length-set (omega arith)

pub loop-g-preserved : goal.loop-g-preserved
loop-g-preserved c =
    let a = c.args in
    let l = c.loop-g in
    both_more (λ k. choice (in_rows a.rows.now) a.p (0 * 16 + k)) (λ k. choice (in_rows a.rows.now) a.p (1 * 16 + k)) l.g _ _ l.plane (omega arith) (omega arith) c.choose.ensures c.choose-in-loop-g.ensures l.invariant

pub returns : goal.returns
returns c =
    let a = c.args in
    let l = c.loop-g in
    let end : l.g ≡ 16 = omega arith in
    both-all (choice (in_rows a.rows.now) a.p) l.plane (rw end at l.invariant)
