-- `field::multiply` meets its contract: the field is that of the branch.
-- Assumes nothing.
use mathlib.Core.Path.{sym, ap, ◌∙◌}
use Rattle.algebra.specs.Coded.{Coded, mul_byte}
use Rattle.galois.proofs.DegreeLaws.{field_four, field_other}
use Rattle.field.proofs.multiply.Goals as goal

pub returns-then-degree-eq-DEGREE : goal.returns-then-degree-eq-DEGREE
returns-then-degree-eq-DEGREE c =
    let a = c.args in
    c.multiply.ensures ∙ sym (ap (λ (C : Coded). mul_byte C a.a a.b) (field_four a.degree c.if-degree-eq-DEGREE.true))

pub returns-else-degree-eq-DEGREE : goal.returns-else-degree-eq-DEGREE
returns-else-degree-eq-DEGREE c =
    let a = c.args in
    c.multiply-else-degree-eq-DEGREE.ensures ∙ sym (ap (λ (C : Coded). mul_byte C a.a a.b) (field_other a.degree c.if-degree-eq-DEGREE.false))
