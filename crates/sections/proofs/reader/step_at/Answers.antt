-- `sections::reader::step_at` meets its contract: the section that `find` found; or the refusal 12, place 0.
-- Assumes nothing.
use mathlib.Core.Path.{ap, ◌∙◌}
use Rattle.sections.proofs.SpanLaws.{found, not_found, found_inside}
use Rattle.sections.specs.Taking.{answer_on, next_on, bytes_on, answer_at, next_at, bytes_at}
use Rattle.sections.proofs.reader.step_at.Goals as goal

pub returns-in_default : goal.returns-in_default
unfolding answer_at
returns-in_default c =
    let no = not_found c.in_default.is c.find.ensures.result_value in
    (c.refuse.ensures ∙ ap answer_on no, tt)

pub returns : goal.returns
unfolding answer_at next_at bytes_at
returns c =
    let p = c.find in
    let yes = found c.in-At.is p.ensures.result_value in
    (ap answer_on yes, (found_inside _ c.in-At.is p.ensures.inside, ap (next_on _) yes, ap (bytes_on _) yes))
