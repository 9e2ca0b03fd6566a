-- `field::Field::mask_element` meets its contract: below the degree by the field's test.
-- Assumes nothing.
use Prim.Native.Nat.{◌<◌}
use mathlib.Core.Path.{subst}
use Rattle.field.proofs.MaskLaws.{mask_in_place}
use Rattle.field.proofs.Field.mask_element.Goals as goal

pub returns-then-s-degree : goal.returns-then-s-degree
returns-then-s-degree g c =
    let s = c.args.s in
    mask_in_place g.Self.Field.coded s g.met.Self.Field.weighs (subst (λ n. s < n) c.degree.ensures c.if-s-degree.true)
