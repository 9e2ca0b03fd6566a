-- `forms_columns::gather_row` meets its contract. Each element is changed once (`Elementwise`).
-- Assumes nothing.
use Prim.Native.Nat.{ℕ, ◌*◌}
use mathlib.Core.List.{List}
use mathlib.Core.Path.{◌≡◌, refl, ap, ◌∙◌}
use native.Mathlib.Nat.{add_assoc}
use native.Mathlib.Omega.{arith}
use Rattle.strings.specs.Sums.{byte_at}
use Rattle.strings.proofs.Elementwise.{changed, changed_more, changed-at}
use Rattle.strings.proofs.SumLaws.{sum_same}
use Rattle.chunks.specs.Chunks.{chunk}
use Rattle.forms_columns.specs.Stacks.{planes}
use Rattle.forms_columns.proofs.gather_row.Invariants.{change}
use Rattle.forms_columns.proofs.gather_row.Goals as goal

pub loop-e-init : goal.loop-e-init
unfolding changed
loop-e-init c = refl

pub loop-e-preserved : goal.loop-e-preserved
loop-e-preserved c =
    let a = c.args in
    let l = c.loop-e in
    changed_more (change a.stacks.now a.at) a.out.now l.out l.e _ l.invariant
    (c.sum_at.ensures ∙ sum_same 16 _ _ (λ f k. ap (byte_at a.stacks.now) (add_assoc (l.e * (planes * chunk)) a.at f)))

pub returns : goal.returns
returns c i h =
    let a = c.args in
    let l = c.loop-e in
    let end : l.e ≡ a.tau = omega arith in
    ap (λ (d : List ℕ). byte_at d i) (rw end at l.invariant) ∙ changed-at (change a.stacks.now a.at) a.out.now a.tau i c.requires.0 h
