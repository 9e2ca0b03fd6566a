-- `keccak::permuted` meets its contract. After i turns the lanes are those after 2i rounds, six of them changed.
-- Assumes nothing.
use Rattle.std.proofs.Common.{◌≡◌, ◌*◌}
use Rattle.sponge.specs.Keccak.{rounds}
use Rattle.keccak.specs.Flags.{flips, outer}
use Rattle.keccak.proofs.permuted.Given as goal

abbrev pub invariant-loop-i : goal.invariant-loop-i
invariant-loop-i l = l.s ≡ flips outer (rounds (2 * l.i) l.fn.a)
