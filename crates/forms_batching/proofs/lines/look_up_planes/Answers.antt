-- `forms_batching::lines::look_up_planes` meets its contract. The invariant: the planes below p are looked up.
-- Assumes nothing.
use mathlib.Core.Path.{◌≡◌}
use native.Mathlib.Omega.{arith}
use Rattle.strings.proofs.Rows.{rows_more}
use Rattle.chunks.specs.Chunks.{chunk}
use Rattle.forms_batching.proofs.lines.look_up_planes.Invariants.{looked}
use Rattle.forms_batching.proofs.lines.look_up_planes.Goals as goal

pub loop-p-init : goal.loop-p-init
loop-p-init c = (λ i f hi. absurd (omega arith))

pub loop-p-preserved : goal.loop-p-preserved
loop-p-preserved c =
    let a = c.args in
    let l = c.loop-p in
    let done = c.look_up_plane in
    rows_more (looked a.words.now a.sums.now a.base a.groups) l.planes done.new.planes l.p chunk l.invariant done.ensures.by_index done.ensures.rows_kept

pub returns : goal.returns
returns c =
    let l = c.loop-p in
    let end : l.p ≡ 8 = omega arith in
    rw end at l.invariant
