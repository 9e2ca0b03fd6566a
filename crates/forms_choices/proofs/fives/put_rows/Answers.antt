-- `forms_choices::fives::put_rows` meets its contract. The invariant: the rows of the bits below p are filled, and
-- those of earlier repetitions are as they were.
-- Assumes nothing.
use Prim.Native.Nat.{◌+◌, ◌*◌, ◌<◌}
use mathlib.Core.Logic.{⊎_elim}
use mathlib.Core.Path.{◌≡◌, refl, ◌∙◌}
use native.Mathlib.Nat.{eq-or-lt_of_le, le_of_suc-le-suc}
use native.Mathlib.Numerals.{add-one}
use native.Mathlib.Omega.{arith}
use Rattle.forms_choices.proofs.fives.put_rows.Goals as goal

pub loop-p-init : goal.loop-p-init
loop-p-init c = ((λ q g h. absurd (omega arith)), λ q g h k. refl)

pub loop-p-preserved : goal.loop-p-preserved
loop-p-preserved c =
    let a = c.args in
    let l = c.loop-p in
    let done = c.put_row in (
      (λ q g h k.
          ⊎_elim (λ (x : q ≡ l.p). rw x (done.ensures.by_index g k))
          (λ (lt : q < l.p). done.ensures.rows_kept (a.e * 8 + q) g (λ x. omega arith) k ∙ l.invariant.0 q g lt k)
          (eq-or-lt_of_le (le_of_suc-le-suc (rw add-one at h)))),
      λ q g h k. done.ensures.rows_kept q g (λ x. omega arith) k ∙ l.invariant.1 q g h k,
    )

pub returns : goal.returns
returns c =
    let l = c.loop-p in
    record { by_index = (λ p g hp hg. l.invariant.0 p g (omega arith) hg); by_index_2 = l.invariant.1 }
