-- `keccak::permuted` meets its contract. After i turns the lanes are those after 2i rounds, six of them changed.
-- Assumes nothing.
use mathlib.Core.Path.{◌≡◌, sym, ap, ◌∙◌}
use native.Mathlib.Omega.{arith}
use Prim.Native.Nat.{suc, ◌+◌, ◌*◌}
use Rattle.sponge.specs.Tables.{constant, constants}
use Rattle.sponge.specs.Keccak.{rounds, rounded}
use Rattle.keccak.specs.Flags.{flips, outer}
use Rattle.keccak.proofs.LinearLaws.{flips-twice, round_next, all_lanes}
use Rattle.keccak.proofs.permuted.Goals as goal

pub loop-i-init : goal.loop-i-init
unfolding rounds
loop-i-init c = c.flip-s.ensures

pub loop-i-preserved : goal.loop-i-preserved
unfolding rounds constant constants
loop-i-preserved c =
    let l = c.loop-i in
    let a = c.args.a in
    let j = 2 * l.i in
    let one : j + 1 ≡ suc j = omega arith in
    let two : 2 * (l.i + 1) ≡ suc (suc j) = omega arith in
    let half = c.round-half.ensures ∙ round_next (rounds j a) l.s (constant j) l.invariant in
    c.round-s.ensures ∙ round_next (rounds (suc j) a) c.round-half.result (constant (j + 1)) half
    ∙ ap (λ n. flips outer (rounded (constant n) (rounds (suc j) a))) one ∙ ap (λ n. flips outer (rounds n a)) (sym two)

pub returns : goal.returns
returns c =
    let a = c.args.a in
    let l = c.loop-i in
    let e : 2 * l.i ≡ 24 = omega arith in
    c.flip.ensures ∙ ap (flips outer) (l.invariant ∙ ap (λ k. flips outer (rounds k a)) e) ∙ flips-twice outer (rounds 24 a) ∙ all_lanes a
