-- `questions_proof::proof::proof_form` meets its contract. One question after the other.
-- Assumes nothing.
use mathlib.Core.Path.{◌≡◌, sym, ap, ◌∙◌, subst}
use mathlib.Core.Bool.{Bool, true}
use mathlib.Core.List.{List, [], ◌∷◌}
use Prim.Native.Nat.{ℕ}
use Rattle.std.proofs.lemmas.Result.{err_from_is_err_and}
use Rattle.protocol.specs.Alphabet.{Alphabet}
use Rattle.protocol.specs.Shape.{Shape}
use Rattle.protocol.specs.Frames.{framed}
use Rattle.protocol.specs.Sections.{lengths, sections_in}
use Rattle.protocol.specs.Answers.{Answer, question, ask}
use Rattle.protocol.specs.Questions.{proof_spare, proof_elements, q12, q13, q18}
use Rattle.format.specs.Sizes.{alphabet_for, shape_for}
use Rattle.format.proofs.AskLaws.{same_first, said_yes, passed, left}
use Rattle.questions.specs.Facts.{ProofOf}
use Rattle.sections.specs.Moved.{SectionsOf}
use Rattle.sections.specs.declared.reader.Proof.{Proof}
use Rattle.questions_proof.proofs.ProofLaws.{proof_of}
use Rattle.questions_proof.proofs.proof.proof_form.Goals as goal

-- the questions of a proof that was read, by its own bytes and by those that were lent
module _ (A : Alphabet) (s : Shape) (proof ls : List ℕ) (are : ls ≡ lengths A s) where
  twelve : {a : Answer} → a ≡ ask (question (framed ls proof) 12 0 ∷ []) → a ≡ ask (q12 A s proof ∷ [])
  twelve e = same_first 12 0 [] (ap (λ ls. framed ls proof) are) e

  -- what the reader gives, where question 12 got a yes
  read : (p : Proof) → framed ls proof ≡ true → (p.bytes.now ≡ proof) × SectionsOf ls p → ProofOf A s p
  read p form (bytes, sections) = proof_of A s p (ap (framed (lengths A s)) bytes ∙ ap (λ ls. framed ls proof) (sym are) ∙ form) (subst (λ (ls : List ℕ). SectionsOf ls p) are sections)

  thirteen : {b : Bool} {a : Answer} (bytes : List ℕ) → bytes ≡ proof → b ≡ proof_spare A s (sections_in A s bytes) → a ≡ ask (question b 13 0 ∷ []) → a ≡ ask (q13 A s proof ∷ [])
  thirteen bytes same is e = same_first 13 0 [] (is ∙ ap (λ x. proof_spare A s (sections_in A s x)) same) e

  eighteen : {b : Bool} {a : Answer} (bytes : List ℕ) → bytes ≡ proof → b ≡ proof_elements A s (sections_in A s bytes) → a ≡ ask (question b 18 0 ∷ []) → a ≡ ask (q18 A s proof ∷ [])
  eighteen bytes same is e = same_first 18 0 [] (is ∙ ap (λ x. proof_elements A s (sections_in A s x)) same) e

pub returns-in_err-proof : goal.returns-in_err-proof
returns-in_err-proof c =
    let z = c.args.s in
    let q = c.from_residual in
    let p = err_from_is_err_and q.result q.ensures.1 in
    (left _ _ q.result (twelve (alphabet_for z) (shape_for z) c.args.proof.now _ c.proof_lengths-lengths.ensures c.read_sections.ensures.told) c.in_err-proof.was q.ensures.1, rw p.1 tt)

pub proof_spare-requires : goal.proof_spare-requires
proof_spare-requires c =
    let z = c.args.s in
    let p = c.in_ok-proof in
    (c.requires, read (alphabet_for z) (shape_for z) c.args.proof.now _ c.proof_lengths-lengths.ensures p.proof (said_yes _ 12 0 (sym p.ensures.told)) p.ensures.sections)

pub returns-in_err-ask : goal.returns-in_err-ask
returns-in_err-ask c =
    let z = c.args.s in
    let q = c.from_residual-in_err-ask in
    let p = err_from_is_err_and q.result q.ensures.1 in (
      passed _ _ (twelve (alphabet_for z) (shape_for z) c.args.proof.now _ c.proof_lengths-lengths.ensures c.read_sections.ensures.told) c.in_ok-proof.was
          (left _ _ q.result (thirteen (alphabet_for z) (shape_for z) c.args.proof.now _ c.proof_lengths-lengths.ensures _ c.in_ok-proof.ensures.sections.0 c.proof_spare.ensures c.ask.ensures) c.in_err-ask.was q.ensures.1),
      rw p.1 tt,
    )

pub proof_elements-requires : goal.proof_elements-requires
proof_elements-requires c =
    let z = c.args.s in
    let p = c.in_ok-proof in
    read (alphabet_for z) (shape_for z) c.args.proof.now _ c.proof_lengths-lengths.ensures p.proof (said_yes _ 12 0 (sym p.ensures.told)) p.ensures.sections

pub returns-in_err-ask-2 : goal.returns-in_err-ask-2
returns-in_err-ask-2 c =
    let z = c.args.s in
    let q = c.from_residual-in_err-ask-2 in
    let p = err_from_is_err_and q.result q.ensures.1 in (
      passed _ _ (twelve (alphabet_for z) (shape_for z) c.args.proof.now _ c.proof_lengths-lengths.ensures c.read_sections.ensures.told) c.in_ok-proof.was
          (passed _ _ (thirteen (alphabet_for z) (shape_for z) c.args.proof.now _ c.proof_lengths-lengths.ensures _ c.in_ok-proof.ensures.sections.0 c.proof_spare.ensures c.ask.ensures) c.in_ok-ask.was
          (left _ _ q.result (eighteen (alphabet_for z) (shape_for z) c.args.proof.now _ c.proof_lengths-lengths.ensures _ c.in_ok-proof.ensures.sections.0 c.proof_elements.ensures c.ask-2.ensures) c.in_err-ask-2.was q.ensures.1)),
      rw p.1 tt,
    )

pub returns : goal.returns
returns c =
    let z = c.args.s in
    let p = c.in_ok-proof in (
      passed _ _ (twelve (alphabet_for z) (shape_for z) c.args.proof.now _ c.proof_lengths-lengths.ensures c.read_sections.ensures.told) p.was
          (passed _ _ (thirteen (alphabet_for z) (shape_for z) c.args.proof.now _ c.proof_lengths-lengths.ensures _ p.ensures.sections.0 c.proof_spare.ensures c.ask.ensures) c.in_ok-ask.was
          (eighteen (alphabet_for z) (shape_for z) c.args.proof.now _ c.proof_lengths-lengths.ensures _ p.ensures.sections.0 c.proof_elements.ensures c.in_ok-ask-2.ensures)),
      (p.ensures.sections.0, read (alphabet_for z) (shape_for z) c.args.proof.now _ c.proof_lengths-lengths.ensures p.proof (said_yes _ 12 0 (sym p.ensures.told)) p.ensures.sections),
    )
