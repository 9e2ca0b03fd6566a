-- `forms_columns::add_polar` meets its contract: the column's values, times a bit.
-- Assumes nothing.
use mathlib.Core.Bool.{true≢false}
use mathlib.Core.Path.{refl, sym, ◌∙◌}
use Rattle.forms_columns.proofs.add_polar.Goals as goal

pub returns-then-polar : goal.returns-then-polar
returns-then-polar c = record { lanes_added = (λ on e h. c.add_masked.ensures e h); mid_unchanged = λ off. absurd (true≢false (sym c.if-polar.true ∙ off)) }

pub returns-else-polar : goal.returns-else-polar
returns-else-polar c = record { lanes_added = (λ on. absurd (true≢false (sym on ∙ c.if-polar.false))); mid_unchanged = λ off. refl }
