-- `forms_folds::mirrors::reflect_all` meets its contract. The invariant: the columns below col are reflected.
-- Assumes nothing.
use Rattle.std.proofs.Common.{ℕ, ◌+◌, ◌*◌, ◌-◌, ◌≤◌, ◌<◌, ◌≡◌, drop, arith}
use native.Mathlib.Nat.{mul-le-mul_right}
use native.Mathlib.Decide.{dec_lt}
use Rattle.forms_folds.specs.Sets.{Reflected}
use Rattle.forms_folds.proofs.MirrorLaws.{reflected_stays}
use Rattle.forms_folds.proofs.mirrors.reflect_all.Goals as goal

pub loop-col-init : goal.loop-col-init
loop-col-init c = λ x h. absurd (omega arith)

pub reflect-requires : goal.reflect-requires
reflect-requires c =
    let a = c.args in
    let col = c.loop-col.col in
    let rows : col * 8 + 8 ≤ a.piece.end * 16 = omega arith in
    (omega arith, omega arith, omega arith, (λ tall. omega (arith, c.requires.4 tall)), omega arith, omega (arith, mul-le-mul_right a.width rows))

pub loop-col-preserved : goal.loop-col-preserved
loop-col-preserved c =
    let a = c.args in
    let l = c.loop-col in
    let done = c.reflect in
    let few = c.requires.3 in
    let M = drop a.from a.src.now in
    let go : (x : ℕ) → 2 * a.piece.first + x < l.col + 1 → Dec (2 * a.piece.first + x < l.col) → Reflected a.width M (2 * a.piece.first + x) a.piece.count done.new.turned x = λ x h d.
    elim d [
      | yes lt ↦ reflected_stays a.width M (2 * a.piece.first + x) a.piece.count x (l.col - 2 * a.piece.first) l.turned done.new.turned done.ensures.rows_kept (λ e. omega (arith, lt, e)) few (l.invariant x lt)
      | no ge ↦
          let is : x ≡ l.col - 2 * a.piece.first = omega arith in
          let at : 2 * a.piece.first + x ≡ l.col = omega arith in
          rw (at, is) done.ensures.reflected
    ] in
    λ x h. go x h (dec_lt (2 * a.piece.first + x) l.col)

pub returns : goal.returns
returns c = λ k h w. c.loop-col.invariant k (omega arith)
