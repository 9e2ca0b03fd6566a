-- `shake::long` meets its contract: the four calls in a row. Assumes nothing.
use mathlib.Core.Path.{ap, ◌∙◌}
use lib.ListN.{length}
use Rattle.shake.specs.Pieces.{absorbed, finished, given}
use Rattle.shake.proofs.PieceLaws.{shake_is}
use Rattle.shake.proofs.long.Goals as goal

pub returns : goal.returns
returns c =
    let m = c.args.input.now in
    let n = length c.args.out.now in
    c.squeeze.ensures.bytes ∙ ap (λ h. given h n) (c.finish.ensures.state ∙ ap finished (c.absorb.ensures.state ∙ ap (λ h. absorbed h m) c.new.ensures.state)) ∙ shake_is m n
