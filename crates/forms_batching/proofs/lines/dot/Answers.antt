-- `forms_batching::lines::dot` meets its contract: the field is that of the branch.
-- Assumes nothing.
use mathlib.Core.Path.{sym, ap, ◌∙◌}
use lib.ListN.{length}
use Rattle.algebra.specs.Coded.{Coded}
use Rattle.galois.proofs.DegreeLaws.{field_four, field_other}
use Rattle.forms_batching.specs.Lines.{dot_of}
use Rattle.forms_batching.proofs.lines.dot.Goals as goal

pub returns-then-degree-eq-DEGREE : goal.returns-then-degree-eq-DEGREE
returns-then-degree-eq-DEGREE c =
    let a = c.args in
    c.dot_in.ensures ∙ sym (ap (λ (C : Coded). dot_of C a.f.now a.t.now (length a.f.now)) (field_four a.degree c.if-degree-eq-DEGREE.true))

pub returns-else-degree-eq-DEGREE : goal.returns-else-degree-eq-DEGREE
returns-else-degree-eq-DEGREE c =
    let a = c.args in
    c.dot_in-else-degree-eq-DEGREE.ensures ∙ sym (ap (λ (C : Coded). dot_of C a.f.now a.t.now (length a.f.now)) (field_other a.degree c.if-degree-eq-DEGREE.false))
