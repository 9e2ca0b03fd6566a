-- `hash::vectors::put_column` meets its contract. The rows passed have their cell, and no other cell is written.
-- Assumes nothing.
use borrow.Author.Rules.{rules}
use mathlib.Core.Path.{◌≡◌, refl, ◌∙◌}
use mathlib.Core.Logic.{⊎_elim}
use Prim.Native.Nat.{◌+◌, ◌*◌, ◌<◌}
use native.Mathlib.Nat.{eq-or-lt_of_le, le_of_suc-le-suc}
use native.Mathlib.Numerals.{add-one}
use native.Mathlib.Omega.{arith}
use lib.ListN.{length}
use lib.Seq.{get_or-set_same, get_or-set_other}
use Rattle.theorems.proofs.ListLaws.{row-end}
use Rattle.hash.proofs.CellLaws.{cell_other}
use Rattle.hash.proofs.vectors.put_column.Goals as goal

pub loop-e-init : goal.loop-e-init
loop-e-init c = ((λ q h. absurd (omega arith)), λ q r h k n. refl)

pub overflow_mul-out : goal.overflow_mul-out
overflow_mul-out c =
    let a = c.args in
    omega (arith, row-end c.loop-e.e a.tau a.t (search rules))

pub overflow_add-out : goal.overflow_add-out
overflow_add-out c =
    let a = c.args in
    omega (arith, row-end c.loop-e.e a.tau a.t (search rules))

pub bounds-out-e : goal.bounds-out-e
bounds-out-e c =
    let a = c.args in
    omega (arith, row-end c.loop-e.e a.tau a.t (search rules))

pub loop-e-preserved : goal.loop-e-preserved
loop-e-preserved c =
    let a = c.args in
    let l = c.loop-e in
    let at = l.e * a.t + a.rho in
    let inside : l.e * a.t + a.rho < length l.out = omega (arith, row-end l.e a.tau a.t (search rules)) in (
      (λ q h.
          ⊎_elim (λ (z : q ≡ l.e). rw z (get_or-set_same l.out (l.e * a.t + a.rho) _ 0 inside))
          (λ (k : q < l.e).
          get_or-set_other l.out (l.e * a.t + a.rho) (q * a.t + a.rho) _ 0 (λ z. cell_other q a.rho l.e a.rho a.t c.requires.1 c.requires.1 (λ x y. omega arith) z)
          ∙ l.invariant.0 q k)
          (eq-or-lt_of_le (le_of_suc-le-suc (rw add-one at h)))),
      (λ q r h k n.
          get_or-set_other l.out (l.e * a.t + a.rho) (q * a.t + r) _ 0 (λ z. cell_other q r l.e a.rho a.t k c.requires.1 (λ x y. n y) z) ∙ l.invariant.1 q r h k n),
    )

pub returns : goal.returns
returns c =
    let l = c.loop-e in
    record { by_index = (λ e h. l.invariant.0 e (omega arith)); by_index_2 = l.invariant.1 }
