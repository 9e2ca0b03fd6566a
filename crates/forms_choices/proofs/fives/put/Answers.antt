-- `forms_choices::fives::put` meets its contract. Each word is written once (`Elementwise`).
-- Assumes nothing.
use Rattle.std.proofs.Common.{refl, arith}
use Rattle.strings.proofs.Elementwise.{changed, changed_more, changed-all}
use Rattle.forms_choices.proofs.fives.put.Invariants.{word}
use Rattle.forms_choices.proofs.fives.put.Goals as goal

pub loop-k-init : goal.loop-k-init
unfolding changed
loop-k-init c = refl

pub loop-k-preserved : goal.loop-k-preserved
loop-k-preserved c =
    let a = c.args in
    let l = c.loop-k in
    changed_more (word a.picks.now a.at) a.row.now l.row l.k _ l.invariant c.word_at.ensures

pub returns : goal.returns
returns c =
    let a = c.args in
    let l = c.loop-k in
    λ k h. changed-all (word a.picks.now a.at) a.row.now l.row l.k l.invariant (omega arith) (omega arith) k (omega arith)
