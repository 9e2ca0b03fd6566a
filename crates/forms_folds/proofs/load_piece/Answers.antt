-- `forms_folds::load_piece` meets its contract. The invariant: the matrices below i are loaded.
-- Assumes nothing.
use borrow.Author.Rules.{rules}
use native.Mathlib.Omega.{arith}
use Rattle.forms_folds.proofs.SetLaws.{matrix_more}
use Rattle.forms_folds.proofs.load_piece.Goals as goal

pub loop-i-init : goal.loop-i-init
loop-i-init c = λ x hx. absurd (omega arith)

pub load_matrix-requires : goal.load_matrix-requires
load_matrix-requires c =
    let pre = c.requires in
    let l = c.loop-i in
    (pre.0, c.loop-i-test.true, pre.1, pre.2, omega (arith, pre.3, l.auto.cells), search rules, omega (arith, pre.4, l.auto.room))

pub loop-i-preserved : goal.loop-i-preserved
loop-i-preserved c =
    let a = c.args in
    let l = c.loop-i in
    let done = c.load_matrix in
    matrix_more a.n a.width a.piece.top a.piece.first a.piece.count a.m l.i a.a.now l.cells done.new.cells (omega arith) done.ensures.matrix_folded done.ensures.others_kept l.invariant

pub returns : goal.returns
returns c =
    let a = c.args in
    let l = c.loop-i in
    λ p q i h f z hp hq above hi hh hf hz hr hc. l.invariant i (omega arith) p q h f z hp hq above hh hf hz hr hc
