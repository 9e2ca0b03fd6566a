-- `verifier_consistency::difference` meets its contract. The invariant: what was found is 0 exactly where the entries
-- passed are as they must be.
-- Assumes nothing.
use mathlib.Core.Path.{◌≡◌, ap, ◌∙◌}
use native.Mathlib.Omega.{arith}
use lib.ListN.{length}
use Rattle.verifier_consistency.specs.Consistency.{row_consistent}
use Rattle.verifier_consistency.proofs.RowLaws.{row-none, row_more}
use Rattle.verifier_consistency.proofs.difference.Goals as goal

pub loop-rho-init : goal.loop-rho-init
loop-rho-init c u m = row-none c.args.hashed.now c.args.v.now u c.args.delta

pub loop-rho-preserved : goal.loop-rho-preserved
loop-rho-preserved c u are =
    let a = c.args in
    let l = c.loop-rho in
    row_more a.hashed.now a.v.now u a.delta a.masks.now are (omega (arith, c.ranges.delta)) l.rho l.found (omega arith) (l.invariant u are)

pub returns : goal.returns
returns c u are =
    let a = c.args in
    let l = c.loop-rho in
    let end : l.rho ≡ length a.masks.now = omega arith in
    l.invariant u are ∙ ap (row_consistent a.hashed.now a.v.now u a.delta) end
