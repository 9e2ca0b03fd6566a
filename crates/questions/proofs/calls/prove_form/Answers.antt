-- `questions::calls::prove_form` meets its contract. The questions on the key, then those on the other inputs, by the
-- sizes that the key has.
-- Assumes nothing.
use mathlib.Core.Path.{sym, ap₂, ◌∙◌}
use Rattle.protocol.specs.Answers.{ask}
use Rattle.questions.specs.Asking.{prove_inputs}
use Rattle.format.specs.Sizes.{alphabet_for}
use Rattle.format.proofs.AskLaws.{passed, left}
use Rattle.questions.proofs.KeyLaws.{key-sized}
use Rattle.questions.proofs.calls.prove_form.Goals as goal

pub returns-in_err-key_form : goal.returns-in_err-key_form
returns-in_err-key_form c out e = left _ _ c.from_residual.result c.key_form.ensures c.in_err-key_form.was c.from_residual.ensures.1

pub prove_inputs-requires : goal.prove_inputs-requires
prove_inputs-requires c = (key-sized c.args.s c.args.key.now c.requires (sym c.in_ok-key_form.ensures)).in-range

pub returns : goal.returns
returns c out l =
    let a = c.args in
    let e = c.requires (key-sized a.s a.key.now c.requires (sym c.in_ok-key_form.ensures)).header in
    passed _ _ c.key_form.ensures c.in_ok-key_form.was (c.prove_inputs.ensures ∙ ap₂ (λ S n. ask (prove_inputs (alphabet_for a.s) S a.leaves.now a.witness.now a.hash_matrix.now a.batching.now n)) e (sym l))
