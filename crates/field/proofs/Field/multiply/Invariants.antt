-- `field::Field::multiply` meets its contract. The invariant: the sum and what the turns that are left still add are
-- the product.
-- Assumes nothing.
use Rattle.algebra.specs.Bits.{elem}
use Rattle.field.proofs.ProductLaws.{Turned}
use Rattle.field.proofs.Field.multiply.Given as goal

abbrev pub invariant-loop : goal.invariant-loop
invariant-loop g l =
    let F = g.Self.Field in
    let r = F.coded.degree in
    Turned r (elem r F.polynomial) l.a l.b l.counter l.rest l.shifted l.sum
