-- `lanes::add_masked` meets its contract. Each element is changed once (`Elementwise`); a mask of ones or zeros is a
-- product with a bit.
-- Assumes nothing.
use borrow.Author.Rules.{rules}
use mathlib.Core.Path.{refl, ap, ◌∙◌}
use lib.Bits.{bit_xor}
use native.Mathlib.Nat.{mul_comm}
use native.Mathlib.Omega.{arith}
use Rattle.field.proofs.ProductLaws.{mask-times}
use Rattle.strings.specs.Sums.{byte_at}
use Rattle.strings.proofs.Elementwise.{changed, changed_more, changed-all}
use Rattle.lanes.proofs.add_masked.Invariants.{change}
use Rattle.lanes.proofs.add_masked.Goals as goal

pub loop-e-init : goal.loop-e-init
unfolding changed
loop-e-init c = refl

pub loop-e-preserved : goal.loop-e-preserved
loop-e-preserved c =
    let a = c.args in
    let l = c.loop-e in
    let x = byte_at a.src.now l.e in
    changed_more (change a.bit a.src.now) a.acc.now l.acc l.e _ l.invariant
    (ap (bit_xor (byte_at l.acc l.e)) (mask-times a.bit x c.requires (search rules) ∙ mul_comm x a.bit))

pub returns : goal.returns
returns c i h =
    let a = c.args in
    let l = c.loop-e in
    changed-all (change a.bit a.src.now) a.acc.now l.acc l.e l.invariant (omega arith) (omega arith) i (omega arith)
