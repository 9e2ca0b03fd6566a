-- `solfadrus::calls::try_hash` meets its contract: a refusal on form is its answer; and else the
-- step's bytes are written.
-- Assumes nothing.
use mathlib.Core.Path.{◌≡◌, refl, sym, ap, ◌∙◌}
use mathlib.Core.List.{List, [], ◌∷◌}
use Prim.Native.Nat.{ℕ}
use Rattle.std.proofs.lemmas.Result.{err_from_is_err_and}
use Rattle.protocol.specs.Frames.{frame}
use Rattle.protocol.specs.Prover.{ũSection, ṼSection, hash_bytes}
use Rattle.protocol.specs.Shape.{Shape}
use Rattle.protocol.specs.Answers.{accepted, ask}
use Rattle.protocol.specs.Calls.{hash_questions, hash_answer}
use Rattle.format.specs.Sizes.{setting_for, alphabet_for, shape_for, SizesOf}
use Rattle.format.specs.declared.sizes.Sizes.{Sizes}
use Rattle.format.proofs.AskLaws.{exit}
use Rattle.questions.specs.Facts.{KeyFacts, HashFacts}
use Rattle.questions.proofs.KeyLaws.{by-sizes}
use Rattle.solfadrus.proofs.FactLaws.{hash-facts}
use Rattle.solfadrus.proofs.calls.try_hash.Goals as goal

-- what a yes to the questions on form says, by the sizes that were read
facts : (z : Sizes) (key leaves matrix out : List ℕ) → SizesOf key z → accepted ≡ ask (hash_questions (setting_for z) key leaves matrix out) → let y = shape_for z in KeyFacts (alphabet_for z) y key × HashFacts (alphabet_for z) y leaves matrix out
facts z key leaves matrix out of h =
    let f = hash-facts (setting_for z) key leaves matrix out (sym h) in
    by-sizes (λ y. KeyFacts (alphabet_for z) y key × HashFacts (alphabet_for z) y leaves matrix out) z key of f.0.header f

pub hash_form-requires : goal.hash_form-requires
hash_form-requires c = c.sizes_of-s.ensures.0

pub returns-in_err-hash_form : goal.returns-in_err-hash_form
unfolding hash_answer
returns-in_err-hash_form c =
    let a = c.args in
    let q = c.from_residual in
    let p = err_from_is_err_and q.result q.ensures.1 in
    rw (← c.sizes_of-s.ensures.1) (record { result_value = exit q.result c.in_err-hash_form.was q.ensures.1 ∙ c.hash_form.ensures a.out.now refl; hash_output = rw p.1 })

pub hash-requires : goal.hash-requires
hash-requires c =
    let a = c.args in
    let f = facts c.sizes_of-s.result a.key.now a.leaves.now a.matrix.now a.out.now c.sizes_of-s.ensures.0 (c.in_ok-hash_form.ensures a.out.now refl) in
    f.1

pub returns : goal.returns
unfolding hash_answer hash_bytes
returns c =
    let a = c.args in
    let A = alphabet_for c.sizes_of-s.result in
    let f = facts c.sizes_of-s.result a.key.now a.leaves.now a.matrix.now a.out.now c.sizes_of-s.ensures.0 (c.in_ok-hash_form.ensures a.out.now refl) in
    let e = c.sizes_of-s.ensures.0 f.0.header in
    rw (← c.sizes_of-s.ensures.1) (record {
      result_value = c.in_ok-hash_form.ensures a.out.now refl;
      hash_output = c.hash.ensures ∙ ap (λ (z : Shape). frame (ũSection A z a.leaves.now a.matrix.now ∷ ṼSection A z a.leaves.now a.matrix.now ∷ [])) e;
    })
