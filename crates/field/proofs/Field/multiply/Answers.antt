-- `field::Field::multiply` meets its contract. The invariant: the sum and what the turns that are left still add are
-- the product.
-- Assumes nothing.
use mathlib.Core.Path.{sym, subst, ap₂, ◌∙◌}
use Prim.Native.Nat.{◌%◌, ◌<◌, ◌≤◌}
use Rattle.algebra.specs.Bits.{elem}
use Rattle.field.proofs.ProductLaws.{Turned, turned_start, turned-step, turned-end}
use Rattle.field.proofs.Field.multiply.Goals as goal

pub loop-init : goal.loop-init
loop-init g c =
    let F = g.Self.Field in
    let r = F.coded.degree in
    let m = elem r F.polynomial in
    let a = c.args.a in
    let b = c.args.b in
    subst (λ x. Turned r m a b 0 a x 0) (sym (ap₂ (λ x n. x % n) c.from.ensures (c.size.ensures ∙ F.coded.size_is))) (turned_start r m a b)

pub loop-preserved : goal.loop-preserved
loop-preserved g c =
    let F = g.Self.Field in
    let r = F.coded.degree in
    let m = elem r F.polynomial in
    let l = c.loop in
    turned-step r m _ _ l.counter l.rest l.shifted l.sum _ _ (subst (λ n. l.counter < n) c.degree-end.ensures c.loop-test.true) c.masked-sum.ensures c.double-shifted.ensures l.invariant

pub returns : goal.returns
returns g c =
    let F = g.Self.Field in
    let r = F.coded.degree in
    let m = elem r F.polynomial in
    let l = c.loop in
    turned-end r m c.args.a c.args.b l.counter l.rest l.shifted l.sum (subst (λ n. n ≤ l.counter) c.degree-end.ensures c.loop-test.false) l.invariant ∙ sym (g.met.Self.Field.product c.args.a c.args.b)
