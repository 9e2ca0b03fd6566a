-- `shake::short` meets its contract: a block in, a permutation, a block out. Assumes nothing.
use Prim.Native.Nat.{◌-◌}
use mathlib.Core.Path.{ap, ◌∙◌}
use lib.ListN.{length}
use Rattle.sponge.specs.Keccak.{keccak}
use Rattle.sponge.specs.Lanes.{listed}
use Rattle.sponge.specs.Sponge.{byte_in, added, rate, suffix, last_bit}
use Rattle.shake.proofs.PieceLaws.{short_is}
use Rattle.shake.proofs.short.Goals as goal

pub returns : goal.returns
returns c =
    let m = c.args.input.now in
    let n = length c.args.out.now in
    c.emit.ensures
    ∙ ap (λ s. listed n (byte_in s) 0) (c.permute.ensures ∙ ap keccak (c.pad.ensures ∙ ap (λ s. added (added s (length m) suffix) (rate - 1) last_bit) c.mix.ensures))
    ∙ short_is m n c.requires.0 c.requires.1
