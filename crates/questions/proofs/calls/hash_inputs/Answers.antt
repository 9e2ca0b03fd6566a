-- `questions::calls::hash_inputs` meets its contract. The questions on each input, one after the other.
-- Assumes nothing.
use mathlib.Core.Path.{ap, sym, ◌∙◌}
use lib.Dec.{eqb}
use Rattle.format.proofs.AllLaws.{all_one}
use Rattle.format.proofs.AskLaws.{same_first, passed, left}
use Rattle.questions.proofs.calls.hash_inputs.Goals as goal

pub hash_matrix_form-requires : goal.hash_matrix_form-requires
hash_matrix_form-requires c = (c.requires, λ h. sym c.hash_matrix_exact-exact.ensures ∙ h)

pub returns-in_err-hash_matrix_form : goal.returns-in_err-hash_matrix_form
returns-in_err-hash_matrix_form c =
    let q = c.from_residual in
    left _ _ q.result (same_first 5 0 _ (all_one c.hash_matrix_exact-exact.ensures) c.hash_matrix_form.ensures) c.in_err-hash_matrix_form.was q.ensures.1

pub returns-in_err-full_form : goal.returns-in_err-full_form
returns-in_err-full_form c =
    let q = c.from_residual-in_err-full_form in
    passed _ _ (same_first 5 0 _ (all_one c.hash_matrix_exact-exact.ensures) c.hash_matrix_form.ensures) c.in_ok-hash_matrix_form.was
    (left _ _ q.result c.full_form.ensures c.in_err-full_form.was q.ensures.1)

pub returns : goal.returns
returns c =
    passed _ _ (same_first 5 0 _ (all_one c.hash_matrix_exact-exact.ensures) c.hash_matrix_form.ensures) c.in_ok-hash_matrix_form.was
    (passed _ _ c.full_form.ensures c.in_ok-full_form.was
    (same_first 10 0 _ (ap (eqb _) c.hash_bytes.ensures) c.ask.ensures))
