-- `shake::Shake::finish` meets its contract. Assumes nothing.
use Rattle.std.proofs.Common.{ap, ◌∙◌, rules}
use Rattle.sponge.specs.Keccak.{keccak}
use Rattle.shake.specs.Pieces.{finished}
use Rattle.shake.proofs.state.Shake.finish.Goals as goal

pub returns : goal.returns
unfolding finished
returns c = record { state = ap (λ l. (l, 0)) (c.permute.ensures ∙ ap keccak c.pad.ensures); inside = search rules }
