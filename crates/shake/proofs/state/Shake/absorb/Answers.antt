-- `shake::Shake::absorb` meets its contract. What is left to absorb, absorbed by the state as it stands, gives the result.
-- Assumes nothing.
use Rattle.std.proofs.Common.{◌≡◌, ◌+◌, ◌%◌, ◌≤◌, [], length, sym, ap, ◌∙◌, arith}
use Rattle.std.proofs.lemmas.Grind.{common_steps}
use Rattle.sponge.specs.Sponge.{rate, added_all}
use Rattle.shake.specs.Pieces.{settled, absorbed}
use Rattle.shake.proofs.PieceLaws.{settled_lt, absorbed-step}
use Rattle.shake.proofs.state.Shake.absorb.Goals as goal

pub loop-rest-preserved : goal.loop-rest-preserved
loop-rest-preserved c =
    let l = c.loop-rest in
    let part = c.split_at.result.0.now in
    let left = c.split_at.result.1.now in
    let room : l.at + length part ≤ rate = omega arith in
    let now-is = c.settle-at.ensures ∙ ap (λ s. settled s (l.at + length part)) c.mix.ensures in
    record {
      inside = omega (arith, ap (λ g. g.1) now-is, settled_lt (added_all l.lanes l.at part) (l.at + length part) room);
      same = ap (λ g. absorbed g left) now-is ∙ absorbed-step part left l.lanes l.at l.invariant.inside room ∙ ap (absorbed (l.lanes, l.at)) (sym c.split_at.ensures.by_index.0) ∙ l.invariant.same;
    }

pub returns : goal.returns
unfolding absorbed
returns c =
    let l = c.loop-rest in
    let none : l.rest.now ≡ [] = grind (arith, common_steps) in
    let place : l.at % rate ≡ l.at = omega (arith, l.invariant.inside) in
    record {
      state = ap (λ k. (l.lanes, k)) place ∙ ap (absorbed (l.lanes, l.at)) (sym none) ∙ l.invariant.same;
      inside = l.invariant.inside;
    }
