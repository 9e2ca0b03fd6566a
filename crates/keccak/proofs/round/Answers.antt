-- `keccak::round` meets its contract: its parts, then `ChiLaws` and `LinearLaws`.
-- Assumes nothing.
use mathlib.Core.Path.{ap, ◌∙◌}
use Rattle.sponge.specs.Keccak.{θ, ρ, π}
use Rattle.keccak.specs.Planes.{moved, joined, held_round}
use Rattle.keccak.proofs.ChiLaws.{joined_is, chi_flips}
use Rattle.keccak.proofs.LinearLaws.{linear_lt, round_held}
use Rattle.keccak.proofs.round.Goals as goal

pub returns : goal.returns
unfolding joined θ moved
returns g c =
    let a = c.args.a.now in
    let k = c.args.k in
    joined_is k _ _ _ _ _ _ c.plane0-p.ensures c.plane1-q.ensures c.plane2-r.ensures c.plane3-s.ensures c.plane4-t.ensures
    ∙ ap (λ d. held_round k (moved a d)) c.effects-d.ensures
    ∙ chi_flips (π (ρ (θ a))) k (linear_lt a c.fits-a) ∙ round_held a k c.fits-a
