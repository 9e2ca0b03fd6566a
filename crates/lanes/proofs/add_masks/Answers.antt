-- `lanes::add_masks` meets its contract. The invariant: the coordinates passed are added, each times its power.
-- Assumes nothing.
use Prim.Native.Nat.{ℕ, ◌+◌, ◌<◌}
use mathlib.Core.Path.{◌≡◌, sym, ap₂, ◌∙◌}
use native.Mathlib.Omega.{arith}
use lib.ListN.{get_or-replicate}
use lib.Bits.{bit_xor, xor_zero_r}
use Rattle.algebra.specs.Coded.{mul_byte}
use Rattle.galois.specs.Degrees.{field_of, degree_of, mask_element_of}
use Rattle.strings.specs.Sums.{byte_at, xor_sum}
use Rattle.strings.proofs.SumLaws.{sum_step}
use Rattle.lanes.specs.Lanes.{lanes, lane_at, first_mask}
use Rattle.lanes.proofs.add_masks.Goals as goal

pub loop-i-init : goal.loop-i-init
unfolding xor_sum
loop-i-init c e h = sym (xor_zero_r _)

pub loop-i-preserved : goal.loop-i-preserved
loop-i-preserved c e h =
    let a = c.args in
    let l = c.loop-i in
    let weight = c.mask_element-weight in
    let f : ℕ → ℕ = λ i. mul_byte (field_of a.s.degree) (mask_element_of a.s.degree i) (lane_at a.table.now (first_mask a.s e + i) e) in
    let in-lanes : e < lanes = omega (arith, h, c.requires.0) in
    c.accumulate.ensures e in-lanes
    ∙ ap₂ (λ (x y : ℕ). bit_xor (byte_at l.acc e) (mul_byte (field_of a.s.degree) x y)) (get_or-replicate lanes e weight.result 0 in-lanes ∙ weight.ensures) (c.mask_row-row.ensures e h)
    ∙ sum_step (byte_at a.acc.now e) (byte_at l.acc e) l.i f (l.invariant e h)

pub returns : goal.returns
returns c e h =
    let end : c.loop-i.i ≡ degree_of c.args.s.degree = omega arith in
    (rw end at c.loop-i.invariant) e h
