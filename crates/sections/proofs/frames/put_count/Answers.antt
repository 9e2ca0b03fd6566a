-- `sections::frames::put_count` meets its contract: the library writes the bytes of the definition.
-- Assumes nothing.
use mathlib.Core.Path.{◌∙◌}
use Rattle.protocol.specs.Frames.{count4}
use Rattle.sections.proofs.frames.put_count.Goals as goal

pub returns : goal.returns
unfolding count4
returns c = c.copy_from_slice.ensures.after ∙ c.to_le_bytes.ensures
