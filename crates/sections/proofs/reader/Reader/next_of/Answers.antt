-- `sections::reader::Reader::next_of` meets its contract: the reader's answer, and then the section's length.
-- Assumes nothing.
use mathlib.Core.Path.{◌≡◌, ap, ◌∙◌}
use mathlib.Core.List.{List, [], ◌∷◌}
use Prim.Native.Nat.{ℕ}
use lib.Dec.{eqb}
use lib.ListN.{length}
use Rattle.std.proofs.lemmas.Result.{err_from_is_err_and, IfOk-at_ok}
use Rattle.protocol.specs.Answers.{question, ask}
use Rattle.format.proofs.AskLaws.{exit, go_on, stop_at}
use Rattle.sections.specs.Taking.{bytes_at}
use Rattle.sections.proofs.ReaderLaws.{then_length}
use Rattle.sections.proofs.reader.Reader.next_of.Goals as goal

pub returns-in_err-section : goal.returns-in_err-section
returns-in_err-section c =
    let r = c.args.self.now in
    let p = err_from_is_err_and c.from_residual.result c.from_residual.ensures.1 in (
      then_length c.args.length r.proof.now r.at c.next_section.ensures.0 (stop_at _ c.from_residual.result c.in_err-section.was c.from_residual.ensures.1),
      c.next_section.ensures.1,
      rw p.1 tt,
    )

pub returns-in_err-ask : goal.returns-in_err-ask
returns-in_err-ask c =
    let r = c.args.self.now in
    let q = c.from_residual-in_err-ask in
    let p = err_from_is_err_and q.result q.ensures.1 in
    let x = IfOk-at_ok (λ section. section.now ≡ bytes_at r.proof.now r.at) c.in_ok-section.was c.next_section.ensures.2 in (
      then_length c.args.length r.proof.now r.at c.next_section.ensures.0
          (go_on c.in_ok-section.was (exit q.result c.in_err-ask.was q.ensures.1 ∙ c.ask.ensures ∙ ap (λ (s : List ℕ). ask (question (eqb (length s) c.args.length) 12 0 ∷ [])) x)),
      c.next_section.ensures.1,
      rw p.1 tt,
    )

pub returns : goal.returns
returns c =
    let r = c.args.self.now in
    let x = IfOk-at_ok (λ section. section.now ≡ bytes_at r.proof.now r.at) c.in_ok-section.was c.next_section.ensures.2 in (
      then_length c.args.length r.proof.now r.at c.next_section.ensures.0
          (go_on c.in_ok-section.was (c.in_ok-ask.ensures ∙ ap (λ (s : List ℕ). ask (question (eqb (length s) c.args.length) 12 0 ∷ [])) x)),
      c.next_section.ensures.1,
      x,
    )
