-- `questions::calls::commit_inputs` meets its contract. The questions on each input, one after the other.
-- Assumes nothing.
use mathlib.Core.Path.{ap}
use lib.Dec.{eqb}
use Rattle.format.proofs.AskLaws.{same_first, passed, left}
use Rattle.questions.proofs.calls.commit_inputs.Goals as goal

pub returns-in_err-full_form : goal.returns-in_err-full_form
returns-in_err-full_form c =
    let q = c.from_residual in
    left _ _ q.result c.full_form.ensures c.in_err-full_form.was q.ensures.1

pub returns-in_err-witness_form : goal.returns-in_err-witness_form
returns-in_err-witness_form c =
    let q = c.from_residual-in_err-witness_form in
    passed _ _ c.full_form.ensures c.in_ok-full_form.was
    (left _ _ q.result c.witness_form.ensures c.in_err-witness_form.was q.ensures.1)

pub returns : goal.returns
returns c =
    passed _ _ c.full_form.ensures c.in_ok-full_form.was
    (passed _ _ c.witness_form.ensures c.in_ok-witness_form.was
    (same_first 10 0 _ (ap (eqb _) c.commit_bytes.ensures) c.ask.ensures))
