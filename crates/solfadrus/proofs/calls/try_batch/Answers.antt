-- `solfadrus::calls::try_batch` meets its contract: a refusal on form, then question 11's, is its answer; and else the
-- step's bytes are written.
-- Assumes nothing.
use mathlib.Core.Path.{◌≡◌, refl, sym, ap, ◌∙◌}
use mathlib.Core.List.{List, [], ◌∷◌}
use Prim.Native.Nat.{ℕ}
use Rattle.std.proofs.lemmas.Result.{err_from_is_err_and}
use Rattle.protocol.specs.Frames.{frame}
use Rattle.protocol.specs.Prover.{qs0_section, qs1_section, batch_bytes}
use Rattle.protocol.specs.Shape.{Shape, shape_of}
use Rattle.protocol.specs.Questions.{q11}
use Rattle.protocol.specs.Answers.{accepted, ask}
use Rattle.protocol.specs.Calls.{batch_questions, batch_answer}
use Rattle.format.specs.Sizes.{setting_for, alphabet_for, shape_for, SizesOf}
use Rattle.format.specs.declared.sizes.Sizes.{Sizes}
use Rattle.format.proofs.AskLaws.{exit, passed, left}
use Rattle.questions.specs.Facts.{BatchFacts}
use Rattle.questions.proofs.KeyLaws.{by-sizes}
use Rattle.solfadrus.proofs.FactLaws.{batch-facts}
use Rattle.solfadrus.proofs.calls.try_batch.Goals as goal

-- what a yes to the questions on form says, by the sizes that were read
facts : (z : Sizes) (key leaves witness batching out : List ℕ) → SizesOf key z → accepted ≡ ask (batch_questions (setting_for z) key leaves witness batching out) → let y = shape_for z in BatchFacts (alphabet_for z) y key leaves witness batching out
facts z key leaves witness batching out of h =
    let f = batch-facts (setting_for z) key leaves witness batching out (sym h) in
    by-sizes (λ y. BatchFacts (alphabet_for z) y key leaves witness batching out) z key of f.of-key.header f

pub batch_form-requires : goal.batch_form-requires
batch_form-requires c = c.sizes_of-s.ensures.0

pub returns-in_err-batch_form : goal.returns-in_err-batch_form
unfolding batch_answer
returns-in_err-batch_form c =
    let a = c.args in
    let q = c.from_residual in
    let p = err_from_is_err_and q.result q.ensures.1 in
    rw (← c.sizes_of-s.ensures.1) (record { result_value = left (batch_questions (setting_for c.sizes_of-s.result) a.key.now a.leaves.now a.witness.now a.batching.now a.out.now) (q11 (alphabet_for c.sizes_of-s.result) (shape_of a.key.now) a.key.now a.witness.now ∷ []) q.result (c.batch_form.ensures a.out.now refl) c.in_err-batch_form.was q.ensures.1; batch_output = rw p.1 })

pub solved-requires : goal.solved-requires
solved-requires c =
    let a = c.args in
    let f = facts c.sizes_of-s.result a.key.now a.leaves.now a.witness.now a.batching.now a.out.now c.sizes_of-s.ensures.0 (c.in_ok-batch_form.ensures a.out.now refl) in
    (c.sizes_of-s.ensures.0, record { of-key = f.of-key; of_witness = f.of_witness })

pub returns-in_err-solved : goal.returns-in_err-solved
unfolding batch_answer
returns-in_err-solved c =
    let a = c.args in
    let q = c.from_residual-in_err-solved in
    let p = err_from_is_err_and q.result q.ensures.1 in
    rw (← c.sizes_of-s.ensures.1) (record { result_value = passed (batch_questions (setting_for c.sizes_of-s.result) a.key.now a.leaves.now a.witness.now a.batching.now a.out.now) (q11 (alphabet_for c.sizes_of-s.result) (shape_of a.key.now) a.key.now a.witness.now ∷ []) (c.batch_form.ensures a.out.now refl) c.in_ok-batch_form.was (exit q.result c.in_err-solved.was q.ensures.1 ∙ c.solved.ensures); batch_output = rw p.1 })

pub batch-requires : goal.batch-requires
batch-requires c =
    let a = c.args in
    let f = facts c.sizes_of-s.result a.key.now a.leaves.now a.witness.now a.batching.now a.out.now c.sizes_of-s.ensures.0 (c.in_ok-batch_form.ensures a.out.now refl) in
    f

pub returns : goal.returns
unfolding batch_answer batch_bytes
returns c =
    let a = c.args in
    let A = alphabet_for c.sizes_of-s.result in
    let f = facts c.sizes_of-s.result a.key.now a.leaves.now a.witness.now a.batching.now a.out.now c.sizes_of-s.ensures.0 (c.in_ok-batch_form.ensures a.out.now refl) in
    let e = c.sizes_of-s.ensures.0 f.of-key.header in
    rw (← c.sizes_of-s.ensures.1) (record {
      result_value = passed (batch_questions (setting_for c.sizes_of-s.result) a.key.now a.leaves.now a.witness.now a.batching.now a.out.now) (q11 (alphabet_for c.sizes_of-s.result) (shape_of a.key.now) a.key.now a.witness.now ∷ []) (c.batch_form.ensures a.out.now refl) c.in_ok-batch_form.was c.in_ok-solved.ensures;
      batch_output = c.batch.ensures ∙ ap (λ (z : Shape). frame (qs0_section A z a.leaves.now a.key.now a.batching.now ∷ qs1_section A z a.leaves.now a.key.now a.witness.now a.batching.now ∷ [])) e;
    })
