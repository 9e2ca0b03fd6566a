-- `questions::key::section_y` meets its contract. The third section.
-- Assumes nothing.
use Rattle.protocol.specs.Key.{key_lengths, section_y}
use Rattle.questions.proofs.key.section_y.Goals as goal

pub returns : goal.returns
unfolding key_lengths section_y
returns c = c.key_section.ensures
