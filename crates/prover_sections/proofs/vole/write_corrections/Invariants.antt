-- `prover_sections::vole::write_corrections` meets its contract. The invariant: the corrections before that of e are
-- done.
-- Assumes nothing.
use Rattle.std.proofs.Common.{◌-◌}
use Rattle.tables.specs.Sums.{CorrectionsAre}
use Rattle.prover_sections.proofs.vole.write_corrections.Given as goal

abbrev pub invariant-loop-e : goal.invariant-loop-e
invariant-loop-e l = CorrectionsAre l.out l.sums (l.e - 1) l.w
