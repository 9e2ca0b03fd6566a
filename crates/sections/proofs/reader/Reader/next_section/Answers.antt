-- `sections::reader::Reader::next_section` meets its contract where a section is missing: the reader stays.
-- Assumes nothing.
use mathlib.Core.Path.{ap, ◌∙◌}
use Rattle.std.proofs.lemmas.Result.{err_from_is_err_and}
use Rattle.format.proofs.AskLaws.{exit}
use Rattle.sections.proofs.ReaderLaws.{stays}
use Rattle.sections.proofs.reader.Reader.next_section.Goals as goal

pub returns-in_err-start : goal.returns-in_err-start
returns-in_err-start c =
    let r = c.args.self.now in
    let p = err_from_is_err_and c.from_residual.result c.from_residual.ensures.1 in
    let e = exit c.from_residual.result c.in_err-start.was c.from_residual.ensures.1 ∙ c.step_at.ensures.0 in
    (e, ap (λ k. record { proof = r.proof; at = k }) (stays r.proof.now r.at (rw p.1 at e)), rw p.1 tt)
