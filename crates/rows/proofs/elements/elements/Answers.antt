-- `rows::elements::elements` meets its contract: at degree 4 the test is the definition's, and at any other every
-- byte is an element.
-- Assumes nothing.
use Rattle.rows.proofs.ElementLaws.{tested-elements}
use Rattle.rows.proofs.elements.elements.Goals as goal

pub returns : goal.returns
returns c =
    let a = c.args in
    tested-elements a.degree a.s.now c.above_narrow-above.result (λ i k. (c.type_inv.s i).fits) c.above_narrow-above.ensures
