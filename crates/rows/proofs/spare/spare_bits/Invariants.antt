-- `rows::spare::spare_bits` meets its contract. The loop's invariant: what was found is 0 exactly where the rows
-- passed have spare bits 0 (`SpareLaws`).
-- Assumes nothing.
use mathlib.Core.Path.{◌≡◌}
use lib.Dec.{eqb}
use Rattle.rows.specs.Spare.{bits_spare}
use Rattle.rows.proofs.spare.spare_bits.Given as goal

abbrev pub invariant-loop-i : goal.invariant-loop-i
invariant-loop-i l = eqb l.found 0 ≡ bits_spare l.bits l.i l.s
