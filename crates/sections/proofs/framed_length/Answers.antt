-- `sections::framed_length` meets its contract. The place after the last section.
-- Assumes nothing.
use mathlib.Core.Path.{ap, ◌∙◌}
use lib.Seq.{take-length}
use Rattle.protocol.specs.Frames.{framed_length}
use Rattle.sections.proofs.framed_length.Goals as goal

pub returns : goal.returns
returns c = c.count_at.ensures ∙ ap framed_length (take-length _)
