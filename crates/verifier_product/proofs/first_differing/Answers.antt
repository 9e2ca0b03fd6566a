-- `verifier_product::first_differing` meets its contract. The invariant: the repetitions passed hold.
-- Assumes nothing.
use borrow.Author.Count.{below_more}
use mathlib.Core.Path.{sym, ap, ◌∙◌}
use native.Mathlib.Omega.{arith}
use lib.ListN.{length}
use lib.Bits.{bit_xor}
use Rattle.theorems.proofs.TestLaws.{eqb_same, eqb-other}
use Rattle.strings.specs.Sums.{byte_at}
use Rattle.format.proofs.FirstLaws.{first_found, none_found}
use Rattle.verifier_product.proofs.first_differing.Goals as goal

pub loop-e-init : goal.loop-e-init
loop-e-init c k h = absurd (omega arith)

pub returns-then-left-e : goal.returns-then-left-e
returns-then-left-e c =
    let a = c.args in
    let l = c.loop-e in
    first_found (length a.delta.now) _ l.e (omega arith) l.invariant (eqb-other (byte_at a.left.now l.e) _ (λ h. c.if-left-e.true (h ∙ ap (bit_xor (byte_at a.qs0.now l.e)) (sym c.multiply.ensures))))

pub loop-e-preserved : goal.loop-e-preserved
loop-e-preserved c =
    let a = c.args in
    let l = c.loop-e in
    below_more _ _ l.invariant (eqb_same (byte_at a.left.now l.e) _ (c.if-left-e.false ∙ ap (bit_xor (byte_at a.qs0.now l.e)) c.multiply.ensures))

pub returns : goal.returns
returns c =
    let l = c.loop-e in
    none_found (length c.args.delta.now) _ (λ k h. l.invariant k (omega (arith, h)))
