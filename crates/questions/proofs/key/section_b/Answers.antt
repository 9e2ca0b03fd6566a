-- `questions::key::section_b` meets its contract. The second section.
-- Assumes nothing.
use Rattle.protocol.specs.Key.{key_lengths, section_b}
use Rattle.questions.proofs.key.section_b.Goals as goal

pub returns : goal.returns
unfolding key_lengths section_b
returns c = c.key_section.ensures
