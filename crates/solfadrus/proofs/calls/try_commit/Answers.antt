-- `solfadrus::calls::try_commit` meets its contract: a refusal on form, then question 11's, is its answer; and else the
-- step's bytes are written.
-- Assumes nothing.
use mathlib.Core.Path.{◌≡◌, refl, sym, ap, ◌∙◌}
use mathlib.Core.List.{List, [], ◌∷◌}
use Prim.Native.Nat.{ℕ}
use Rattle.std.proofs.lemmas.Result.{err_from_is_err_and}
use Rattle.protocol.specs.Frames.{frame}
use Rattle.protocol.specs.Prover.{c_section, d_section, commit_bytes}
use Rattle.protocol.specs.Shape.{Shape, shape_of}
use Rattle.protocol.specs.Questions.{q11}
use Rattle.protocol.specs.Answers.{accepted, ask}
use Rattle.protocol.specs.Calls.{commit_questions, commit_answer}
use Rattle.format.specs.Sizes.{setting_for, alphabet_for, shape_for, SizesOf}
use Rattle.format.specs.declared.sizes.Sizes.{Sizes}
use Rattle.format.proofs.AskLaws.{exit, passed, left}
use Rattle.questions.specs.Facts.{KeyFacts, CommitFacts}
use Rattle.questions.proofs.KeyLaws.{by-sizes}
use Rattle.solfadrus.proofs.FactLaws.{commit-facts}
use Rattle.solfadrus.proofs.calls.try_commit.Goals as goal

-- what a yes to the questions on form says, by the sizes that were read
facts : (z : Sizes) (key leaves witness out : List ℕ) → SizesOf key z → accepted ≡ ask (commit_questions (setting_for z) key leaves witness out) → let y = shape_for z in KeyFacts (alphabet_for z) y key × CommitFacts (alphabet_for z) y leaves witness out
facts z key leaves witness out of h =
    let f = commit-facts (setting_for z) key leaves witness out (sym h) in
    by-sizes (λ y. KeyFacts (alphabet_for z) y key × CommitFacts (alphabet_for z) y leaves witness out) z key of f.0.header f

pub commit_form-requires : goal.commit_form-requires
commit_form-requires c = c.sizes_of-s.ensures.0

pub returns-in_err-commit_form : goal.returns-in_err-commit_form
unfolding commit_answer
returns-in_err-commit_form c =
    let a = c.args in
    let q = c.from_residual in
    let p = err_from_is_err_and q.result q.ensures.1 in
    rw (← c.sizes_of-s.ensures.1) (record { result_value = left (commit_questions (setting_for c.sizes_of-s.result) a.key.now a.leaves.now a.witness.now a.out.now) (q11 (alphabet_for c.sizes_of-s.result) (shape_of a.key.now) a.key.now a.witness.now ∷ []) q.result (c.commit_form.ensures a.out.now refl) c.in_err-commit_form.was q.ensures.1; commit_output = rw p.1 })

pub solved-requires : goal.solved-requires
solved-requires c =
    let a = c.args in
    let f = facts c.sizes_of-s.result a.key.now a.leaves.now a.witness.now a.out.now c.sizes_of-s.ensures.0 (c.in_ok-commit_form.ensures a.out.now refl) in
    (c.sizes_of-s.ensures.0, record { of-key = f.0; of_witness = f.1.of_witness })

pub returns-in_err-solved : goal.returns-in_err-solved
unfolding commit_answer
returns-in_err-solved c =
    let a = c.args in
    let q = c.from_residual-in_err-solved in
    let p = err_from_is_err_and q.result q.ensures.1 in
    rw (← c.sizes_of-s.ensures.1) (record { result_value = passed (commit_questions (setting_for c.sizes_of-s.result) a.key.now a.leaves.now a.witness.now a.out.now) (q11 (alphabet_for c.sizes_of-s.result) (shape_of a.key.now) a.key.now a.witness.now ∷ []) (c.commit_form.ensures a.out.now refl) c.in_ok-commit_form.was (exit q.result c.in_err-solved.was q.ensures.1 ∙ c.solved.ensures); commit_output = rw p.1 })

pub commit-requires : goal.commit-requires
commit-requires c =
    let a = c.args in
    let f = facts c.sizes_of-s.result a.key.now a.leaves.now a.witness.now a.out.now c.sizes_of-s.ensures.0 (c.in_ok-commit_form.ensures a.out.now refl) in
    f.1

pub returns : goal.returns
unfolding commit_answer commit_bytes
returns c =
    let a = c.args in
    let A = alphabet_for c.sizes_of-s.result in
    let f = facts c.sizes_of-s.result a.key.now a.leaves.now a.witness.now a.out.now c.sizes_of-s.ensures.0 (c.in_ok-commit_form.ensures a.out.now refl) in
    let e = c.sizes_of-s.ensures.0 f.0.header in
    rw (← c.sizes_of-s.ensures.1) (record {
      result_value = passed (commit_questions (setting_for c.sizes_of-s.result) a.key.now a.leaves.now a.witness.now a.out.now) (q11 (alphabet_for c.sizes_of-s.result) (shape_of a.key.now) a.key.now a.witness.now ∷ []) (c.commit_form.ensures a.out.now refl) c.in_ok-commit_form.was c.in_ok-solved.ensures;
      commit_output = c.commit.ensures ∙ ap (λ (z : Shape). frame (c_section A z a.leaves.now ∷ d_section A z a.leaves.now a.witness.now ∷ [])) e;
    })
