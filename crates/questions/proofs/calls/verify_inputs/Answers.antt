-- `questions::calls::verify_inputs` meets its contract. The questions on each input, one after the other.
-- Assumes nothing.
use mathlib.Core.Path.{sym, ◌∙◌}
use mathlib.Core.Bool.{◌&&◌}
use Rattle.algebra.proofs.CountLaws.{and_left, and_right}
use Rattle.format.proofs.AllLaws.{all_three}
use Rattle.format.proofs.AskLaws.{same_first, passed, left}
use Rattle.questions.proofs.calls.verify_inputs.Goals as goal

pub hash_matrix_form-requires : goal.hash_matrix_form-requires
hash_matrix_form-requires c =
    let Δ? = c.challenge_exact.result in
    let H? = c.hash_matrix_exact.result in
    let χ? = c.batching_exact.result in
    (c.requires, λ e. sym c.hash_matrix_exact.ensures ∙ and_right Δ? H? (and_left (Δ? && H?) χ? e))

pub returns-in_err-hash_matrix_form : goal.returns-in_err-hash_matrix_form
returns-in_err-hash_matrix_form c =
    let q = c.from_residual in
    left _ _ q.result (same_first 5 0 _ (all_three c.challenge_exact.ensures c.hash_matrix_exact.ensures c.batching_exact.ensures) c.hash_matrix_form.ensures) c.in_err-hash_matrix_form.was q.ensures.1

pub returns-in_err-challenge_form : goal.returns-in_err-challenge_form
returns-in_err-challenge_form c =
    let q = c.from_residual-in_err-challenge_form in
    passed _ _ (same_first 5 0 _ (all_three c.challenge_exact.ensures c.hash_matrix_exact.ensures c.batching_exact.ensures) c.hash_matrix_form.ensures) c.in_ok-hash_matrix_form.was
    (left _ _ q.result c.challenge_form.ensures c.in_err-challenge_form.was q.ensures.1)

pub returns : goal.returns
returns c =
    passed _ _ (same_first 5 0 _ (all_three c.challenge_exact.ensures c.hash_matrix_exact.ensures c.batching_exact.ensures) c.hash_matrix_form.ensures) c.in_ok-hash_matrix_form.was
    (passed _ _ c.challenge_form.ensures c.in_ok-challenge_form.was c.opened_form.ensures)
