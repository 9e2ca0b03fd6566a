-- `questions::key::section_a` meets its contract. The first section.
-- Assumes nothing.
use Rattle.protocol.specs.Key.{key_lengths, section_a}
use Rattle.questions.proofs.key.section_a.Goals as goal

pub returns : goal.returns
unfolding key_lengths section_a
returns c = c.key_section.ensures
