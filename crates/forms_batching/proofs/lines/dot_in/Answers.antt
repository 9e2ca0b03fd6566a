-- `forms_batching::lines::dot_in` meets its contract. The invariant: the products of the coordinates below c are added.
-- Assumes nothing.
use mathlib.Core.Path.{◌≡◌, refl, sym, ap₂, ◌∙◌}
use native.Mathlib.Omega.{arith}
use lib.Bits.{bit_xor}
use lib.ListN.{length}
use Rattle.algebra.specs.Coded.{mul_byte}
use Rattle.strings.specs.Sums.{byte_at, xor_sum}
use Rattle.strings.proofs.SumLaws.{sum_more}
use Rattle.forms_batching.proofs.lines.dot_in.Goals as goal

pub loop-c-init : goal.loop-c-init
unfolding xor_sum
loop-c-init g c = refl

pub loop-c-preserved : goal.loop-c-preserved
loop-c-preserved g c =
    let a = c.args in
    let l = c.loop-c in
    ap₂ bit_xor l.invariant c.multiply-sum.ensures ∙ sym (sum_more l.c (λ k. mul_byte g.F.Field.coded (byte_at a.f.now k) (byte_at a.t.now k)))

pub returns : goal.returns
returns g c =
    let end : c.loop-c.c ≡ length c.args.f.now = omega arith in
    rw end at c.loop-c.invariant
