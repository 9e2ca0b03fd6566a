-- `field::double` meets its contract, by the field's test.
-- Assumes nothing.
use mathlib.Core.Path.{sym, subst, ap, ap₂, ◌∙◌}
use Prim.Native.Nat.{◌*◌, ◌/◌, ◌%◌, ◌<◌}
use lib.Bits.{bit_xor}
use Rattle.field.proofs.ProductLaws.{doubled_moved}
use Rattle.field.proofs.SizeLaws.{moved-fits, added-fits, top-bit, moved-is}
use Rattle.field.proofs.double.Goals as goal

pub overflow_mul-result : goal.overflow_mul-result
overflow_mul-result g c = record { fits = moved-fits g.F.Field.coded c.size.result c.size.ensures c.args.x }

pub overflow_cast-from : goal.overflow_cast-from
overflow_cast-from g c = record { fits = added-fits g.F.Field.coded c.size-2.result c.size-2.ensures c.from.result }

pub masked-requires : goal.masked-requires
masked-requires g c =
    let n = c.size.result in
    top-bit g.F.Field.coded n c.size.ensures c.args.x (subst (λ n. c.args.x < n) (sym c.size.ensures) c.requires)

pub returns : goal.returns
returns g c =
    let F = g.F.Field in
    let x = c.args.x in
    let n = c.size.result in
    ap (bit_xor (x % (n / 2) * 2)) (c.masked.ensures ∙ ap₂ (λ m k. m % k * (x / (n / 2))) (c.from.ensures ∙ c.modulus.ensures) (c.size-2.ensures ∙ sym c.size.ensures))
    ∙ moved-is F.coded n c.size.ensures F.polynomial x
    ∙ doubled_moved F.coded.degree F.polynomial x g.met.F.Field.doubles (subst (λ n. x < n) F.coded.size_is c.requires)
