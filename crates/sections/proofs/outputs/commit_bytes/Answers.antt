-- `sections::outputs::commit_bytes` meets its contract. The sum fits by the limits.
-- Assumes nothing.
use mathlib.Core.Path.{ap, ◌∙◌}
use native.Mathlib.Omega.{arith}
use Rattle.protocol.specs.Frames.{framed_length}
use Rattle.format.specs.Sizes.{setting_for, shape_for}
use Rattle.format.proofs.SizeLaws.{commit-most}
use Rattle.sections.proofs.outputs.commit_bytes.Goals as goal

pub framed_length-requires : goal.framed_length-requires
framed_length-requires c = rw c.commit_lengths-lengths.ensures (omega (arith, commit-most (setting_for c.args.s) (shape_for c.args.s) c.requires))

pub returns : goal.returns
returns c = c.framed_length.ensures ∙ ap framed_length c.commit_lengths-lengths.ensures
