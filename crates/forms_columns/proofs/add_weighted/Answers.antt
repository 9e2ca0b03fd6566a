-- `forms_columns::add_weighted` meets its contract. Each element is changed once (`Elementwise`); a mask is a product
-- with a bit.
-- Assumes nothing.
use mathlib.Core.Path.{refl, ap, ◌∙◌}
use lib.Bits.{bit_xor}
use native.Mathlib.Nat.{mul_comm}
use native.Mathlib.Omega.{arith}
use Rattle.field.proofs.ProductLaws.{mask-times}
use Rattle.strings.specs.Sums.{byte_at, bit_of}
use Rattle.strings.proofs.Meaning.{bitOf_lt}
use Rattle.strings.proofs.Elementwise.{changed, changed_more, changed-all}
use Rattle.forms_columns.proofs.add_weighted.Invariants.{change}
use Rattle.forms_columns.proofs.add_weighted.Goals as goal

pub loop-e-init : goal.loop-e-init
unfolding changed
loop-e-init c = refl

pub loop-e-preserved : goal.loop-e-preserved
unfolding bit_of
loop-e-preserved c =
    let a = c.args in
    let l = c.loop-e in
    let q = bit_of (byte_at a.row.now l.e) a.z in
    changed_more (change a.row.now a.z a.weight) a.u.now l.u l.e _ l.invariant
    (ap (bit_xor (byte_at l.u l.e)) (mask-times q a.weight (bitOf_lt _ _) (omega arith) ∙ mul_comm a.weight q))

pub returns : goal.returns
returns c i h =
    let a = c.args in
    let l = c.loop-e in
    changed-all (change a.row.now a.z a.weight) a.u.now l.u l.e l.invariant (omega arith) (omega arith) i (omega arith)
