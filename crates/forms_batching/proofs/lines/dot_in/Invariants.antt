-- `forms_batching::lines::dot_in` meets its contract. The invariant: the products of the coordinates below c are added.
-- Assumes nothing.
use mathlib.Core.Path.{◌≡◌}
use Rattle.forms_batching.specs.Lines.{dot_of}
use Rattle.forms_batching.proofs.lines.dot_in.Given as goal

abbrev pub invariant-loop-c : goal.invariant-loop-c
invariant-loop-c g l = l.sum ≡ dot_of g.F.Field.coded l.f l.t l.c
