-- `forms_folds::rows::put_rows` meets its contract. The invariant: the panels below p are put, and the cells beside
-- them are as they were.
-- Assumes nothing.
use mathlib.Core.Path.{◌≡◌, refl}
use native.Mathlib.Omega.{arith}
use Rattle.forms_folds.proofs.SetLaws.{put_more, chunks_more}
use Rattle.forms_folds.proofs.rows.put_rows.Goals as goal

pub loop-p-init : goal.loop-p-init
loop-p-init c = ((λ p e hp. absurd (omega arith)), (λ at e beside he. refl))

pub put_panel-requires : goal.put_panel-requires
put_panel-requires c =
    let pre = c.requires in
    let l = c.loop-p in
    ((pre.0, pre.1, pre.2, pre.3, omega (arith, pre.4, l.auto.cells), pre.5, pre.6), c.loop-p-test.true)

pub loop-p-preserved : goal.loop-p-preserved
loop-p-preserved c =
    let a = c.args in
    let l = c.loop-p in
    let done = c.put_panel in (
      put_more a.piece.first l.p a.piece.end a.piece.count a.q a.m a.i a.made.now a.turned.now l.cells done.new.cells c.requires.2 c.requires.1 done.ensures.e_after done.ensures.by_index l.invariant.0,
      chunks_more a.piece.first l.p a.piece.end a.piece.count a.q a.m a.i a.made.now a.turned.now l.cells done.new.cells c.requires.2 c.requires.1 done.ensures.e_after done.ensures.by_index a.cells.now l.invariant.1,
    )

pub returns : goal.returns
returns c =
    let l = c.loop-p in
    let end : l.p ≡ 4 = omega arith in
    record { put = rw end at l.invariant.0; chunks_kept = rw end at l.invariant.1 }
