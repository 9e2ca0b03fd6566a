-- `forms_batching::lines::sum_each` meets its contract. The invariant: the chunks below i are summed.
-- Assumes nothing.
use mathlib.Core.Path.{◌≡◌}
use native.Mathlib.Omega.{arith}
use Rattle.strings.proofs.Rows.{rows_more}
use Rattle.chunks.specs.Chunks.{chunk}
use Rattle.forms_batching.specs.Lines.{left_byte}
use Rattle.forms_batching.proofs.lines.sum_each.Goals as goal

pub loop-i-init : goal.loop-i-init
loop-i-init c = (λ j k h. absurd (omega arith))

pub loop-i-preserved : goal.loop-i-preserved
loop-i-preserved c =
    let a = c.args in
    let l = c.loop-i in
    let done = c.sum_left in
    rows_more (λ j. left_byte a.cells.now a.m a.bits.now j a.top a.rows) l.sums done.new.sums l.i chunk l.invariant done.ensures.by_index done.ensures.rows_kept

pub returns : goal.returns
returns c =
    let l = c.loop-i in
    let end : l.i ≡ c.args.m = omega arith in
    rw end at l.invariant
