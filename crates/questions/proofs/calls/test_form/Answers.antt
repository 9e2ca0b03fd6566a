-- `questions::calls::test_form` meets its contract. The questions on the key, then those on the witness.
-- Assumes nothing.
use mathlib.Core.Path.{sym, ap, ◌∙◌}
use mathlib.Core.List.{[], ◌∷◌}
use Rattle.protocol.specs.Answers.{ask}
use Rattle.protocol.specs.Questions.{q9}
use Rattle.format.specs.Sizes.{alphabet_for}
use Rattle.format.proofs.AskLaws.{passed, left}
use Rattle.questions.proofs.KeyLaws.{key-sized}
use Rattle.questions.proofs.calls.test_form.Goals as goal

pub returns-in_err-key_form : goal.returns-in_err-key_form
returns-in_err-key_form c = left _ _ c.from_residual.result c.key_form.ensures c.in_err-key_form.was c.from_residual.ensures.1

pub witness_form-requires : goal.witness_form-requires
witness_form-requires c = (key-sized c.args.s c.args.key.now c.requires (sym c.in_ok-key_form.ensures)).in-range

pub returns : goal.returns
returns c =
    let a = c.args in
    let e = c.requires (key-sized a.s a.key.now c.requires (sym c.in_ok-key_form.ensures)).header in
    passed _ _ c.key_form.ensures c.in_ok-key_form.was (c.witness_form.ensures ∙ ap (λ S. ask (q9 (alphabet_for a.s) S a.witness.now ∷ [])) e)
