-- `questions::calls::prove_inputs` meets its contract. The questions on each input, one after the other.
-- Assumes nothing.
use mathlib.Core.Path.{ap, sym, ◌∙◌}
use lib.Dec.{eqb}
use Rattle.algebra.proofs.CountLaws.{and_left}
use Rattle.format.proofs.AllLaws.{all_two}
use Rattle.format.proofs.AskLaws.{same_first, passed, left}
use Rattle.questions.proofs.calls.prove_inputs.Goals as goal

pub hash_matrix_form-requires : goal.hash_matrix_form-requires
hash_matrix_form-requires c =
    (c.requires, λ e. sym c.hash_matrix_exact.ensures ∙ and_left c.hash_matrix_exact.result c.batching_exact.result e)

pub returns-in_err-hash_matrix_form : goal.returns-in_err-hash_matrix_form
returns-in_err-hash_matrix_form c =
    let q = c.from_residual in
    left _ _ q.result (same_first 5 0 _ (all_two c.hash_matrix_exact.ensures c.batching_exact.ensures) c.hash_matrix_form.ensures) c.in_err-hash_matrix_form.was q.ensures.1

pub returns-in_err-batching_form : goal.returns-in_err-batching_form
returns-in_err-batching_form c =
    let q = c.from_residual-in_err-batching_form in
    passed _ _ (same_first 5 0 _ (all_two c.hash_matrix_exact.ensures c.batching_exact.ensures) c.hash_matrix_form.ensures) c.in_ok-hash_matrix_form.was
    (left _ _ q.result c.batching_form.ensures c.in_err-batching_form.was q.ensures.1)

pub returns-in_err-full_form : goal.returns-in_err-full_form
returns-in_err-full_form c =
    let q = c.from_residual-in_err-full_form in
    passed _ _ (same_first 5 0 _ (all_two c.hash_matrix_exact.ensures c.batching_exact.ensures) c.hash_matrix_form.ensures) c.in_ok-hash_matrix_form.was
    (passed _ _ c.batching_form.ensures c.in_ok-batching_form.was
    (left _ _ q.result c.full_form.ensures c.in_err-full_form.was q.ensures.1))

pub returns-in_err-witness_form : goal.returns-in_err-witness_form
returns-in_err-witness_form c =
    let q = c.from_residual-in_err-witness_form in
    passed _ _ (same_first 5 0 _ (all_two c.hash_matrix_exact.ensures c.batching_exact.ensures) c.hash_matrix_form.ensures) c.in_ok-hash_matrix_form.was
    (passed _ _ c.batching_form.ensures c.in_ok-batching_form.was
    (passed _ _ c.full_form.ensures c.in_ok-full_form.was
    (left _ _ q.result c.witness_form.ensures c.in_err-witness_form.was q.ensures.1)))

pub returns : goal.returns
returns c =
    passed _ _ (same_first 5 0 _ (all_two c.hash_matrix_exact.ensures c.batching_exact.ensures) c.hash_matrix_form.ensures) c.in_ok-hash_matrix_form.was
    (passed _ _ c.batching_form.ensures c.in_ok-batching_form.was
    (passed _ _ c.full_form.ensures c.in_ok-full_form.was
    (passed _ _ c.witness_form.ensures c.in_ok-witness_form.was
    (same_first 10 0 _ (ap (eqb _) c.proof_bytes.ensures) c.ask.ensures))))
