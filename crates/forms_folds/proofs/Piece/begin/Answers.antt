-- `forms_folds::Piece::begin` meets its contract.
-- Assumes nothing.
use Prim.Native.Nat.{◌+◌, ◌*◌, ◌≤◌}
use native.Mathlib.Nat.{mul-le-mul}
use native.Mathlib.Omega.{arith}
use Rattle.forms_folds.proofs.PlaceLaws.{before_tall, before_flat}
use Rattle.forms_folds.proofs.Piece.begin.Goals as goal

pub overflow_mul-result-then-self : goal.overflow_mul-result-then-self
overflow_mul-result-then-self c =
    let a = c.args in
    let few : a.p ≤ 4 = omega arith in
    let small : 2 * a.self.first + a.p + 1 ≤ 50 = omega arith in
    omega (arith, mul-le-mul few small)

pub overflow_mul-result-else-self : goal.overflow_mul-result-else-self
overflow_mul-result-else-self c =
    let a = c.args in
    let few : a.p ≤ 4 = omega arith in
    let small : a.self.count ≤ 10 = omega arith in
    omega (arith, mul-le-mul few small)

pub returns-then-self : goal.returns-then-self
returns-then-self c = let a = c.args in before_tall a.self.first a.self.count a.p (omega arith) (omega arith)

pub returns-else-self : goal.returns-else-self
returns-else-self c = let a = c.args in before_flat a.self.first a.self.count a.p (omega arith) (omega arith)
