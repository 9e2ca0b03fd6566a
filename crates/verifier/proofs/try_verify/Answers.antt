-- `verifier::try_verify` meets its contract: a refusal on the key, the other inputs or the proof is its answer, and else
-- the two checks give it.
-- Assumes nothing.
use mathlib.Core.Path.{refl, sym, ap, ◌∙◌, subst}
use mathlib.Core.List.{List}
use Prim.Native.Nat.{ℕ}
use Rattle.protocol.specs.Answers.{ask}
use Rattle.format.specs.Sizes.{alphabet_for, shape_for}
use Rattle.format.proofs.AskLaws.{go_on, stop_at}
use Rattle.questions.specs.Facts.{ProofAsked}
use Rattle.questions.proofs.KeyLaws.{key-sized}
use Rattle.verifier.specs.Given.{VerifyFacts, check_questions}
use Rattle.verifier.proofs.GivenLaws.{verify-facts, all_asked}
use Rattle.verifier.proofs.try_verify.Goals as goal

pub key_form-requires : goal.key_form-requires
key_form-requires c = c.sizes_of-s.ensures.0

pub returns-in_err-key_form : goal.returns-in_err-key_form
returns-in_err-key_form c =
    let a = c.args in
    let q = c.from_residual in
    stop_at _ q.result c.in_err-key_form.was q.ensures.1 ∙ all_asked _ _ a.key.now a.delta.now a.matrix.now a.batching.now a.opened.now a.proof.now c.sizes_of-s.ensures.1 refl c.key_form.ensures refl refl refl

pub verify_inputs-requires : goal.verify_inputs-requires
verify_inputs-requires c = (key-sized c.sizes_of-s.result c.args.key.now c.sizes_of-s.ensures.0 (sym c.in_ok-key_form.ensures)).in-range

pub returns-in_err-verify_inputs : goal.returns-in_err-verify_inputs
returns-in_err-verify_inputs c =
    let a = c.args in
    let q = c.from_residual-in_err-verify_inputs in
    let of = c.sizes_of-s.ensures in
    let facts = key-sized c.sizes_of-s.result a.key.now of.0 (sym c.in_ok-key_form.ensures) in
    let e = of.0 facts.header in
    go_on c.in_ok-key_form.was (stop_at _ q.result c.in_err-verify_inputs.was q.ensures.1)
    ∙ all_asked _ _ a.key.now a.delta.now a.matrix.now a.batching.now a.opened.now a.proof.now of.1 e c.key_form.ensures c.verify_inputs.ensures refl refl

pub proof_form-requires : goal.proof_form-requires
proof_form-requires c = (key-sized c.sizes_of-s.result c.args.key.now c.sizes_of-s.ensures.0 (sym c.in_ok-key_form.ensures)).in-range

pub returns-in_err-proof : goal.returns-in_err-proof
returns-in_err-proof c =
    let a = c.args in
    let q = c.from_residual-in_err-proof in
    let of = c.sizes_of-s.ensures in
    let facts = key-sized c.sizes_of-s.result a.key.now of.0 (sym c.in_ok-key_form.ensures) in
    let e = of.0 facts.header in
    go_on c.in_ok-key_form.was (go_on c.in_ok-verify_inputs.was (stop_at _ q.result c.in_err-proof.was q.ensures.1))
    ∙ all_asked _ _ a.key.now a.delta.now a.matrix.now a.batching.now a.opened.now a.proof.now of.1 e c.key_form.ensures c.verify_inputs.ensures c.proof_form.ensures.0 refl

pub both_checks-requires : goal.both_checks-requires
both_checks-requires c =
    let a = c.args in
    let z = c.sizes_of-s.result in
    let of = c.sizes_of-s.ensures in
    let facts = key-sized c.sizes_of-s.result a.key.now of.0 (sym c.in_ok-key_form.ensures) in
    let e = of.0 facts.header in
    let asked = subst (ProofAsked (alphabet_for z) (shape_for z) a.proof.now) c.in_ok-proof.was c.proof_form.ensures in
    let given = verify-facts (alphabet_for z) (shape_for z) a.key.now a.delta.now a.matrix.now a.batching.now a.opened.now a.proof.now facts (sym c.in_ok-verify_inputs.ensures) (sym asked.0) in
    (subst (VerifyFacts (alphabet_for z) (shape_for z) a.key.now a.delta.now a.matrix.now a.batching.now a.opened.now) (sym asked.1.0) given, asked.1.1)

pub returns : goal.returns
returns c =
    let a = c.args in
    let z = c.sizes_of-s.result in
    let was = c.in_ok-proof.was in
    let of = c.sizes_of-s.ensures in
    let facts = key-sized c.sizes_of-s.result a.key.now of.0 (sym c.in_ok-key_form.ensures) in
    let e = of.0 facts.header in
    let asked = subst (ProofAsked (alphabet_for z) (shape_for z) a.proof.now) was c.proof_form.ensures in
    go_on c.in_ok-key_form.was (go_on c.in_ok-verify_inputs.was (go_on was refl))
    ∙ all_asked _ _ a.key.now a.delta.now a.matrix.now a.batching.now a.opened.now a.proof.now of.1 e c.key_form.ensures c.verify_inputs.ensures c.proof_form.ensures.0
    (c.both_checks.ensures ∙ ap (λ (bytes : List ℕ). ask (check_questions (alphabet_for z) (shape_for z) a.key.now a.delta.now a.matrix.now a.batching.now a.opened.now bytes)) asked.1.0)
