-- `sections::sections_form` meets its contract. The loop's invariant: from where it stands, the lengths that are left
-- have still to follow.
-- Assumes nothing.
use mathlib.Core.Path.{refl, sym, ◌∙◌}
use mathlib.Core.Bool.{false≢true}
use native.Mathlib.Omega.{arith}
use Rattle.theorems.proofs.TestLaws.{eqb_same, eqb_eq}
use Rattle.format.proofs.AskLaws.{exit, says_no, said_no, said_yes, same_first}
use Rattle.sections.proofs.SectionLaws.{turn_missing, turn_other, turn_next, turn_end}
use Rattle.sections.proofs.SpanLaws.{found, not_found, found_inside}
use Rattle.sections.proofs.sections_form.Goals as goal

pub loop-length-init : goal.loop-length-init
loop-length-init c = (c.requires, refl)

pub returns-in_default : goal.returns-in_default
returns-in_default c =
    let l = c.loop-length in
    let no = turn_missing _ _ l.next l.length-index c.loop-length-test.true (not_found c.in_default.is c.find.ensures.result_value) in
    says_no _ _ 0 _ (l.invariant.1 ∙ no) c.refuse.ensures

pub overflow_sub-end : goal.overflow_sub-end
overflow_sub-end c =
    let i = found_inside _ c.in-At.is c.find.ensures.inside in
    omega arith

pub returns-in_err-ask : goal.returns-in_err-ask
returns-in_err-ask c =
    let l = c.loop-length in
    let q = c.from_residual in
    let no = said_no _ _ 0 c.in_err-ask.ensures in
    let other = turn_other _ _ l.next l.length-index c.loop-length-test.true _ _ (found c.in-At.is c.find.ensures.result_value) (λ e. false≢true (sym no ∙ eqb_same _ _ e)) in
    same_first _ 0 _ (no ∙ sym (l.invariant.1 ∙ other)) (exit q.result c.in_err-ask.was q.ensures.1 ∙ c.ask.ensures)

pub loop-length-preserved : goal.loop-length-preserved
loop-length-preserved c =
    let l = c.loop-length in
    let same = eqb_eq _ _ (said_yes _ _ 0 (sym c.in_ok-ask.ensures)) in (
      (found_inside _ c.in-At.is c.find.ensures.inside).1,
      l.invariant.1 ∙ turn_next _ _ l.next l.length-index c.loop-length-test.true _ _ (found c.in-At.is c.find.ensures.result_value) same,
    )

pub returns : goal.returns
returns c =
    let l = c.loop-length in
    same_first _ 0 _ (sym (l.invariant.1 ∙ turn_end _ _ l.next l.length-index (omega arith) l.invariant.0)) c.ask-2.ensures
