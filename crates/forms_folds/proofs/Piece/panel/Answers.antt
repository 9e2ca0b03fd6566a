-- `forms_folds::Piece::panel` meets its contract.
-- Assumes nothing.
use Prim.Native.Nat.{ℕ, ◌+◌, ◌*◌, ◌-◌, ◌≤◌}
use mathlib.Core.Path.{◌≡◌, ap, ◌∙◌}
use native.Mathlib.Nat.{mul-le-mul_right, add-mul, mul_assoc, add-sub_cancel_left}
use native.Mathlib.Omega.{arith}
use lib.ListN.{length, take, drop, length-take, length-drop}
use lib.Seq.{get_or-take, get_or-drop}
use Rattle.chunks.specs.Chunks.{chunk}
use Rattle.forms_folds.specs.Folds.{before, height, cell_sixteens}
use Rattle.forms_folds.proofs.SetLaws.{panel_folded}
use Rattle.forms_folds.proofs.Piece.panel.Goals as goal

-- where the panel begins, and its length
starts : (b first count p m : ℕ) → b ≡ before first count p → before first count p + height first count p ≤ cell_sixteens → b * m ≤ cell_sixteens * m
starts b first count p m begin all = let fits : b ≤ cell_sixteens = omega (arith, begin, all) in mul-le-mul_right m fits

ends : (b t first count p m : ℕ) → b ≡ before first count p → t ≡ height first count p → before first count p + height first count p ≤ cell_sixteens → (b * m + t * m ≤ cell_sixteens * m) × (t * m ≤ cell_sixteens * m)
ends b t first count p m begin tall all =
    let fits : b + t ≤ cell_sixteens = omega (arith, begin, tall, all) in
    (omega (arith, add-mul b t m, mul-le-mul_right m fits), omega (arith, add-mul b t m, mul-le-mul_right m fits))

pub overflow_mul-from : goal.overflow_mul-from
overflow_mul-from c = let a = c.args in omega (arith, starts c.begin.result a.self.first a.self.count a.p a.m c.begin.ensures (omega arith))

pub overflow_mul-from-2 : goal.overflow_mul-from-2
overflow_mul-from-2 c = let a = c.args in omega (arith, starts c.begin.result a.self.first a.self.count a.p a.m c.begin.ensures (omega arith))

pub overflow_mul-result : goal.overflow_mul-result
overflow_mul-result c = let a = c.args in omega (arith, ends c.begin.result c.height.result a.self.first a.self.count a.p a.m c.begin.ensures c.height.ensures (omega arith))

pub overflow_mul-result-2 : goal.overflow_mul-result-2
overflow_mul-result-2 c = let a = c.args in omega (arith, ends c.begin.result c.height.result a.self.first a.self.count a.p a.m c.begin.ensures c.height.ensures (omega arith))

pub overflow_add-result : goal.overflow_add-result
overflow_add-result c = let a = c.args in omega (arith, ends c.begin.result c.height.result a.self.first a.self.count a.p a.m c.begin.ensures c.height.ensures (omega arith))

pub slice_bounds-result-end : goal.slice_bounds-result-end
slice_bounds-result-end c = let a = c.args in omega (arith, ends c.begin.result c.height.result a.self.first a.self.count a.p a.m c.begin.ensures c.height.ensures (omega arith))

pub returns : goal.returns
returns c =
    let a = c.args in
    let b = c.begin.result in
    let begin = c.begin.ensures in
    let t = c.height.result in
    let tall = c.height.ensures in
    let cells = a.cells.now in
    let from = b * a.m * chunk in
    let len = t * a.m * chunk in
    let e : from + len - from ≡ len = add-sub_cancel_left from len in
    let long : length (take len (drop from cells)) ≡ len = simp (length-take, length-drop) (omega (arith, ends b t a.self.first a.self.count a.p a.m begin tall (omega arith))) in
    rw e (
      long ∙ mul_assoc t a.m chunk ∙ ap (λ x. x * (a.m * chunk)) tall,
      λ n w top A set. panel_folded n w a.m top a.self.first a.self.count a.p b t A cells (take len (drop from cells)) (omega arith) begin tall (λ k h. get_or-take len (drop from cells) k 0 h ∙ get_or-drop from cells k 0) set,
    )
