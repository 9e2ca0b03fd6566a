-- `hash::vectors::take_column` meets its contract. The lanes passed have their cell.
-- Assumes nothing.
use borrow.Author.Rules.{rules}
use mathlib.Core.Path.{◌≡◌, ◌∙◌}
use mathlib.Core.Logic.{⊎_elim}
use Prim.Native.Nat.{◌<◌}
use native.Mathlib.Nat.{eq-or-lt_of_le, le_of_suc-le-suc}
use native.Mathlib.Numerals.{add-one}
use native.Mathlib.Omega.{arith}
use lib.Seq.{get_or-set_same, get_or-set_other}
use Rattle.theorems.proofs.ListLaws.{row-end}
use Rattle.hash.proofs.vectors.take_column.Goals as goal

pub loop-e-init : goal.loop-e-init
loop-e-init c = λ q h. absurd (omega arith)

pub overflow_mul-column : goal.overflow_mul-column
overflow_mul-column c =
    let a = c.args in
    omega (arith, row-end c.loop-e.e a.tau a.t (search rules))

pub overflow_add-column : goal.overflow_add-column
overflow_add-column c =
    let a = c.args in
    omega (arith, row-end c.loop-e.e a.tau a.t (search rules))

pub bounds-out-e : goal.bounds-out-e
bounds-out-e c =
    let a = c.args in
    omega (arith, row-end c.loop-e.e a.tau a.t (search rules))

pub loop-e-preserved : goal.loop-e-preserved
loop-e-preserved c =
    let l = c.loop-e in
    λ q h.
    ⊎_elim (λ (z : q ≡ l.e). rw z (get_or-set_same l.column l.e _ 0 (omega arith)))
    (λ (k : q < l.e). get_or-set_other l.column l.e q _ 0 (λ z. omega arith) ∙ l.invariant q k)
    (eq-or-lt_of_le (le_of_suc-le-suc (rw add-one at h)))

pub returns : goal.returns
returns c = λ e h. c.loop-e.invariant e (omega arith)
