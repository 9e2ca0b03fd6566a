-- `forms_columns::gather` meets its contract. The invariant: the planes below s are gathered.
-- Assumes nothing.
use Prim.Native.Nat.{◌<◌}
use mathlib.Core.Logic.{⊎_elim}
use mathlib.Core.Path.{◌≡◌, ◌∙◌}
use native.Mathlib.Nat.{eq-or-lt_of_le, le_of_suc-le-suc}
use native.Mathlib.Numerals.{add-one}
use native.Mathlib.Omega.{arith}
use Rattle.forms_columns.proofs.gather.Goals as goal

pub loop-s-init : goal.loop-s-init
loop-s-init c q e h k = absurd (omega arith)

pub loop-s-preserved : goal.loop-s-preserved
loop-s-preserved c q e h k =
    let l = c.loop-s in
    let done = c.gather_at in
    ⊎_elim (λ (same : q ≡ l.s). rw same (done.ensures.by_index e k))
    (λ (lt : q < l.s). done.ensures.rows_kept q e (λ x. omega arith) (omega arith) ∙ l.invariant q e lt k)
    (eq-or-lt_of_le (le_of_suc-le-suc (rw add-one at h)))

pub returns : goal.returns
returns c s e h k = c.loop-s.invariant s e (omega arith) k
