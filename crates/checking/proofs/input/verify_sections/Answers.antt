-- `checking::input::verify_sections` meets its contract: each section is that of the definition.
-- Assumes nothing.
use mathlib.Core.Path.{◌∙◌}
use Rattle.checking.proofs.OutcomeLaws.{same_answer}
use Rattle.checking.proofs.input.verify_sections.Goals as goal

pub returns : goal.returns
returns c =
    c.verify.ensures
    ∙ same_answer c.section_no.ensures.0 c.section_no-2.ensures.0 c.section_no-3.ensures.0 c.section_no-4.ensures.0 c.section_no-5.ensures.0 c.section_no-6.ensures.0
