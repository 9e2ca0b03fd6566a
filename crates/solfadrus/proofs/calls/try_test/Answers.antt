-- `solfadrus::calls::try_test` meets its contract: a refusal on form is its answer, and else question 11's.
-- Assumes nothing.
use mathlib.Core.Path.{sym}
use mathlib.Core.List.{[], ◌∷◌}
use Rattle.protocol.specs.Shape.{shape_of}
use Rattle.protocol.specs.Questions.{q11}
use Rattle.protocol.specs.Calls.{test_questions, test_answer}
use Rattle.format.specs.Sizes.{setting_for, alphabet_for}
use Rattle.format.proofs.AskLaws.{passed, left}
use Rattle.questions.specs.Facts.{TestFacts}
use Rattle.questions.proofs.KeyLaws.{by-sizes}
use Rattle.solfadrus.proofs.FactLaws.{test-facts}
use Rattle.solfadrus.proofs.calls.try_test.Goals as goal

pub test_form-requires : goal.test_form-requires
test_form-requires c = c.sizes_of-s.ensures.0

pub returns-in_err-test_form : goal.returns-in_err-test_form
unfolding test_answer
returns-in_err-test_form c =
    let a = c.args in
    let q = c.from_residual in
    rw (← c.sizes_of-s.ensures.1) (left (test_questions (setting_for c.sizes_of-s.result) a.key.now a.witness.now) (q11 (alphabet_for c.sizes_of-s.result) (shape_of a.key.now) a.key.now a.witness.now ∷ []) q.result c.test_form.ensures c.in_err-test_form.was q.ensures.1)

pub solved-requires : goal.solved-requires
solved-requires c =
    let key = c.args.key.now in
    let f = test-facts (setting_for c.sizes_of-s.result) key c.args.witness.now (sym c.in_ok-test_form.ensures) in
    (c.sizes_of-s.ensures.0, by-sizes (λ z. TestFacts (alphabet_for c.sizes_of-s.result) z key c.args.witness.now) c.sizes_of-s.result key c.sizes_of-s.ensures.0 f.of-key.header f)

pub returns : goal.returns
unfolding test_answer
returns c =
    let a = c.args in
    rw (← c.sizes_of-s.ensures.1) (passed (test_questions (setting_for c.sizes_of-s.result) a.key.now a.witness.now) (q11 (alphabet_for c.sizes_of-s.result) (shape_of a.key.now) a.key.now a.witness.now ∷ []) c.test_form.ensures c.in_ok-test_form.was c.solved.ensures)
