-- `questions::key::key_bytes` meets its contract. The sum fits by the limits.
-- Assumes nothing.
use mathlib.Core.Path.{◌≡◌, ap, ◌∙◌}
use Prim.Native.Nat.{◌+◌}
use native.Mathlib.Omega.{arith}
use Rattle.protocol.specs.Frames.{framed_length}
use Rattle.protocol.specs.Key.{key_lengths}
use Rattle.format.specs.Sizes.{alphabet_for, setting_for, shape_for}
use Rattle.format.proofs.SizeLaws.{key-most}
use Rattle.questions.proofs.key.key_bytes.Goals as goal

pub framed_length-requires : goal.framed_length-requires
framed_length-requires c = rw c.key_lengths-lengths.ensures (omega (arith, key-most (setting_for c.args.s) (shape_for c.args.s) c.requires))

pub overflow_add-result : goal.overflow_add-result
overflow_add-result c =
    omega (arith, (let total' : c.framed_length.result ≡ framed_length (key_lengths (alphabet_for c.args.s) (shape_for c.args.s)) = c.framed_length.ensures ∙ ap framed_length c.key_lengths-lengths.ensures in total'), key-most (setting_for c.args.s) (shape_for c.args.s) c.requires)

pub returns : goal.returns
returns c = ap (λ n. 8 + n) ((let total' : c.framed_length.result ≡ framed_length (key_lengths (alphabet_for c.args.s) (shape_for c.args.s)) = c.framed_length.ensures ∙ ap framed_length c.key_lengths-lengths.ensures in total'))
