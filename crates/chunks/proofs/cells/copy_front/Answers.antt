-- `chunks::cells::copy_front` meets its contract. Each element is changed once (`Elementwise`).
-- Assumes nothing.
use Rattle.std.proofs.Common.{◌≡◌, ℕ, List, refl, ap, ◌∙◌, arith}
use Rattle.strings.specs.Sums.{byte_at}
use Rattle.strings.proofs.Elementwise.{changed, changed_more, changed-at, changed-past}
use Rattle.chunks.proofs.cells.copy_front.Invariants.{change}
use Rattle.chunks.proofs.cells.copy_front.Goals as goal

pub loop-f-init : goal.loop-f-init
unfolding changed
loop-f-init c = refl

pub loop-f-preserved : goal.loop-f-preserved
loop-f-preserved c =
    let a = c.args in
    let l = c.loop-f in
    changed_more (change a.src.now a.from) a.dst.now l.dst l.f _ l.invariant refl

pub returns : goal.returns
returns c =
    let a = c.args in
    let l = c.loop-f in
    let end : l.f ≡ a.len = omega arith in
    let is : l.dst ≡ changed (change a.src.now a.from) a.dst.now a.len = rw end at l.invariant in record {
      by_index = (λ f h. ap (λ (d : List ℕ). byte_at d f) is ∙ changed-at (change a.src.now a.from) a.dst.now a.len f c.requires.0 h);
      by_index_2 = (λ f h. ap (λ (d : List ℕ). byte_at d f) is ∙ changed-past (change a.src.now a.from) a.dst.now a.len f h);
    }
