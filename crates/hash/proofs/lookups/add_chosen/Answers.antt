-- `hash::lookups::add_chosen` meets its contract. The two entries are those of the half-bytes.
-- Assumes nothing.
use Rattle.std.proofs.Common.{ℕ, ◌+◌, ◌*◌, ◌/◌, ap, ◌∙◌}
use lib.Bits.{bit_xor}
use Rattle.strings.specs.Sums.{byte_at}
use Rattle.strings.proofs.XorLaws.{xor_assoc}
use Rattle.lanes.specs.Lanes.{lane_at}
use Rattle.hash.proofs.lookups.add_chosen.Goals as goal

pub returns : goal.returns
returns c =
    let a = c.args in
    let low = rw c.from.ensures at c.add_at.ensures in
    let high = rw c.from-2.ensures at c.add_at-2.ensures in
    λ e h. high e h ∙ ap (λ (x : ℕ). bit_xor x (lane_at a.sums.now (a.b * 32 + 16 + a.x / 16) e)) (low e h) ∙ xor_assoc (byte_at a.dst.now e) _ _
