-- `lanes::add_mask_bits` meets its contract. Each element is changed once (`Elementwise`).
-- Assumes nothing.
use Prim.Native.Nat.{ℕ}
use mathlib.Core.List.{List}
use mathlib.Core.Path.{◌≡◌, refl, ap, ◌∙◌}
use lib.Bits.{bit_xor}
use native.Mathlib.Omega.{arith}
use Rattle.strings.specs.Sums.{byte_at}
use Rattle.strings.proofs.Elementwise.{changed, changed_more, changed-at}
use Rattle.lanes.specs.Lanes.{mask_bits}
use Rattle.lanes.proofs.add_mask_bits.Invariants.{change}
use Rattle.lanes.proofs.add_mask_bits.Goals as goal

pub loop-e-init : goal.loop-e-init
unfolding changed
loop-e-init c = refl

pub loop-e-preserved : goal.loop-e-preserved
loop-e-preserved c =
    let a = c.args in
    let l = c.loop-e in
    changed_more (change a.u.now a.s) a.acc.now l.acc l.e _ l.invariant
    (ap (bit_xor (byte_at l.acc l.e)) (c.mask_byte.ensures ∙ ap (mask_bits a.s.degree a.u.now) c.mask_at.ensures))

pub returns : goal.returns
returns c e h =
    let a = c.args in
    let l = c.loop-e in
    let end : l.e ≡ a.s.tau = omega arith in
    let is : l.acc ≡ changed (change a.u.now a.s) a.acc.now a.s.tau = rw end at l.invariant in
    ap (λ (d : List ℕ). byte_at d e) is ∙ changed-at (change a.u.now a.s) a.acc.now a.s.tau e (omega (arith, c.requires.0)) h
