-- `solfadrus::calls::try_prove` meets its contract: a refusal on form, then question 11's, is its answer; and else the
-- proof is written.
-- Assumes nothing.
use mathlib.Core.Path.{◌≡◌, refl, sym, ap, ◌∙◌}
use mathlib.Core.List.{List, [], ◌∷◌}
use Prim.Native.Nat.{ℕ}
use Rattle.std.proofs.lemmas.Result.{err_from_is_err_and}
use Rattle.protocol.specs.Sections.{bytes_of}
use Rattle.protocol.specs.Prover.{sections_of, proof_of}
use Rattle.protocol.specs.Shape.{Shape, shape_of}
use Rattle.protocol.specs.Questions.{q11}
use Rattle.protocol.specs.Answers.{accepted, ask}
use Rattle.protocol.specs.Calls.{prove_questions, prove_answer}
use Rattle.format.specs.Sizes.{setting_for, alphabet_for, shape_for, SizesOf}
use Rattle.format.specs.declared.sizes.Sizes.{Sizes}
use Rattle.format.proofs.AskLaws.{exit, passed, left}
use Rattle.questions.specs.Facts.{ProveFacts}
use Rattle.questions.proofs.KeyLaws.{by-sizes}
use Rattle.solfadrus.proofs.FactLaws.{prove-facts}
use Rattle.solfadrus.proofs.calls.try_prove.Goals as goal

-- what a yes to the questions on form says, by the sizes that were read
facts : (z : Sizes) (key leaves witness matrix batching out : List ℕ) → SizesOf key z → accepted ≡ ask (prove_questions (setting_for z) key leaves witness matrix batching out) → let y = shape_for z in ProveFacts (alphabet_for z) y key leaves witness matrix batching out
facts z key leaves witness matrix batching out of h =
    let f = prove-facts (setting_for z) key leaves witness matrix batching out (sym h) in
    by-sizes (λ y. ProveFacts (alphabet_for z) y key leaves witness matrix batching out) z key of f.of-key.header f

pub prove_form-requires : goal.prove_form-requires
prove_form-requires c = c.sizes_of-s.ensures.0

pub returns-in_err-prove_form : goal.returns-in_err-prove_form
unfolding prove_answer
returns-in_err-prove_form c =
    let a = c.args in
    let q = c.from_residual in
    let p = err_from_is_err_and q.result q.ensures.1 in
    rw (← c.sizes_of-s.ensures.1) (record { result_value = left (prove_questions (setting_for c.sizes_of-s.result) a.key.now a.leaves.now a.witness.now a.matrix.now a.batching.now a.out.now) (q11 (alphabet_for c.sizes_of-s.result) (shape_of a.key.now) a.key.now a.witness.now ∷ []) q.result (c.prove_form.ensures a.out.now refl) c.in_err-prove_form.was q.ensures.1; prove_output = rw p.1 })

pub solved-requires : goal.solved-requires
solved-requires c =
    let a = c.args in
    let f = facts c.sizes_of-s.result a.key.now a.leaves.now a.witness.now a.matrix.now a.batching.now a.out.now c.sizes_of-s.ensures.0 (c.in_ok-prove_form.ensures a.out.now refl) in
    (c.sizes_of-s.ensures.0, record { of-key = f.of-key; of_witness = f.of_witness })

pub returns-in_err-solved : goal.returns-in_err-solved
unfolding prove_answer
returns-in_err-solved c =
    let a = c.args in
    let q = c.from_residual-in_err-solved in
    let p = err_from_is_err_and q.result q.ensures.1 in
    rw (← c.sizes_of-s.ensures.1) (record { result_value = passed (prove_questions (setting_for c.sizes_of-s.result) a.key.now a.leaves.now a.witness.now a.matrix.now a.batching.now a.out.now) (q11 (alphabet_for c.sizes_of-s.result) (shape_of a.key.now) a.key.now a.witness.now ∷ []) (c.prove_form.ensures a.out.now refl) c.in_ok-prove_form.was (exit q.result c.in_err-solved.was q.ensures.1 ∙ c.solved.ensures); prove_output = rw p.1 })

pub prove-requires : goal.prove-requires
prove-requires c =
    let a = c.args in
    let f = facts c.sizes_of-s.result a.key.now a.leaves.now a.witness.now a.matrix.now a.batching.now a.out.now c.sizes_of-s.ensures.0 (c.in_ok-prove_form.ensures a.out.now refl) in
    f

pub returns : goal.returns
unfolding prove_answer proof_of
returns c =
    let a = c.args in
    let A = alphabet_for c.sizes_of-s.result in
    let f = facts c.sizes_of-s.result a.key.now a.leaves.now a.witness.now a.matrix.now a.batching.now a.out.now c.sizes_of-s.ensures.0 (c.in_ok-prove_form.ensures a.out.now refl) in
    let e = c.sizes_of-s.ensures.0 f.of-key.header in
    rw (← c.sizes_of-s.ensures.1) (record {
      result_value = passed (prove_questions (setting_for c.sizes_of-s.result) a.key.now a.leaves.now a.witness.now a.matrix.now a.batching.now a.out.now) (q11 (alphabet_for c.sizes_of-s.result) (shape_of a.key.now) a.key.now a.witness.now ∷ []) (c.prove_form.ensures a.out.now refl) c.in_ok-prove_form.was c.in_ok-solved.ensures;
      prove_output = c.prove.ensures ∙ ap (λ (z : Shape). bytes_of (sections_of A z a.leaves.now a.key.now a.witness.now a.matrix.now a.batching.now)) e;
    })
