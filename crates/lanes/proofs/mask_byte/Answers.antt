-- `lanes::mask_byte` meets its contract. The invariant: the coordinates passed are added, each times its power.
-- Assumes nothing.
use Prim.Native.Nat.{ℕ, ◌+◌}
use mathlib.Core.Path.{◌≡◌, refl, sym, ap₂, ◌∙◌}
use native.Mathlib.Omega.{arith}
use lib.Bits.{bit_xor}
use Rattle.algebra.specs.Coded.{mul_byte}
use Rattle.galois.specs.Degrees.{field_of, degree_of, mask_element_of}
use Rattle.galois.proofs.DegreeLaws.{degree-most}
use Rattle.protocol.specs.Strings.{bit}
use Rattle.strings.specs.Sums.{xor_sum}
use Rattle.strings.proofs.SumLaws.{sum_more}
use Rattle.lanes.proofs.mask_byte.Goals as goal

pub loop-i-init : goal.loop-i-init
unfolding xor_sum
loop-i-init c = refl

pub overflow_add-at : goal.overflow_add-at
overflow_add-at c = omega (arith, degree-most c.args.degree)

pub loop-i-preserved : goal.loop-i-preserved
loop-i-preserved c =
    let a = c.args in
    let l = c.loop-i in
    let f : ℕ → ℕ = λ i. mul_byte (field_of a.degree) (mask_element_of a.degree i) (bit a.u.now (a.at + i)) in
    ap₂ bit_xor l.invariant (c.multiply-sum.ensures ∙ ap₂ (mul_byte (field_of a.degree)) c.mask_element-weight.ensures c.bit_at.ensures) ∙ sym (sum_more l.i f)

pub returns : goal.returns
returns c =
    let end : c.loop-i.i ≡ degree_of c.args.degree = omega arith in
    rw end at c.loop-i.invariant
