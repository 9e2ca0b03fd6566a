-- `shake::settle` meets its contract. Assumes nothing.
use mathlib.Core.Path.{sym, ap, ◌∙◌}
use Rattle.shake.proofs.PieceLaws.{full, rest}
use Rattle.shake.proofs.settle.Goals as goal

pub returns-then-at-eq-RATE : goal.returns-then-at-eq-RATE
returns-then-at-eq-RATE c = ap (λ l. (l, 0)) c.permute.ensures ∙ sym (full _ _ c.if-at-eq-RATE.true)

pub returns-else-at-eq-RATE : goal.returns-else-at-eq-RATE
returns-else-at-eq-RATE c = sym (rest _ _ c.if-at-eq-RATE.false)
