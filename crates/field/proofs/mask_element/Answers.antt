-- `field::mask_element` meets its contract: the field is that of the branch.
-- Assumes nothing.
use mathlib.Core.Path.{sym, ap, ◌∙◌}
use Rattle.algebra.specs.Coded.{Coded}
use Rattle.galois.specs.Gf256.{mask_element as mask256}
use Rattle.galois.specs.Gf16.{mask_element as mask16}
use Rattle.galois.specs.Degrees.{mask_element_of, degree_of}
use Rattle.field.specs.Elements.{mask_of}
use Rattle.galois.proofs.DegreeLaws.{field_four, field_other}
use Rattle.field.proofs.mask_element.Goals as goal

pub returns-then-degree-eq-DEGREE : goal.returns-then-degree-eq-DEGREE
unfolding mask16 mask_element_of degree_of
returns-then-degree-eq-DEGREE c =
    let a = c.args in
    c.mask_element.ensures ∙ sym (ap (λ (C : Coded). mask_of C a.s) (field_four a.degree c.if-degree-eq-DEGREE.true))

pub returns-else-degree-eq-DEGREE : goal.returns-else-degree-eq-DEGREE
unfolding mask256 mask_element_of degree_of
returns-else-degree-eq-DEGREE c =
    let a = c.args in
    c.mask_element-else-degree-eq-DEGREE.ensures ∙ sym (ap (λ (C : Coded). mask_of C a.s) (field_other a.degree c.if-degree-eq-DEGREE.false))
