-- `forms_folds::rows::put_panel` meets its contract: the chunk stands among the sixteens of rows that the cells hold.
-- Assumes nothing.
use Prim.Native.Nat.{ℕ, ◌+◌, ◌*◌, ◌/◌, ◌%◌, ◌≤◌, ◌<◌}
use mathlib.Core.Path.{◌≡◌, ap, ap₂, ◌∙◌}
use native.Mathlib.Nat.{zero-add}
use native.Mathlib.Omega.{arith}
use lib.Bits.{bit_xor}
use Rattle.strings.specs.Sums.{byte_at}
use Rattle.strings.proofs.Rows.{row-end}
use Rattle.forms_folds.specs.Folds.{before, height, cell_sixteens, piece_rows}
use Rattle.forms_folds.proofs.PlaceLaws.{in_height}
use Rattle.forms_folds.proofs.rows.put_panel.Goals as goal

fits : (b first count p q m : ℕ) → b ≡ before first count p → before first count p + height first count p ≤ cell_sixteens → q < count → q ≤ first + p → (b + q < cell_sixteens) × ((b + q) * m + m ≤ cell_sixteens * m)
fits b first count p q m begin all few above =
    let few : b + q < cell_sixteens = omega (arith, begin, in_height first count p q few above) in
    (few, row-end (b + q) cell_sixteens m few)

pub overflow_add-begin : goal.overflow_add-begin
overflow_add-begin c =
    let a = c.args in
    omega (arith, (fits c.begin.result a.piece.first a.piece.count a.p a.q a.m c.begin.ensures (c.requires.0.0.6 a.p (omega arith)) (omega arith) (omega arith)).0)

pub overflow_mul-begin : goal.overflow_mul-begin
overflow_mul-begin c =
    let a = c.args in
    omega (arith, (fits c.begin.result a.piece.first a.piece.count a.p a.q a.m c.begin.ensures (c.requires.0.0.6 a.p (omega arith)) (omega arith) (omega arith)).1)

pub overflow_add-begin-then-panel-piece : goal.overflow_add-begin-then-panel-piece
overflow_add-begin-then-panel-piece c =
    let a = c.args in
    omega (arith, (fits c.begin.result a.piece.first a.piece.count a.p a.q a.m c.begin.ensures (c.requires.0.0.6 a.p (omega arith)) (omega arith) (omega arith)).1)

pub copy_part-requires : goal.copy_part-requires
copy_part-requires c =
    let a = c.args in
    let end = (fits c.begin.result a.piece.first a.piece.count a.p a.q a.m c.begin.ensures (c.requires.0.0.6 a.p (omega arith)) (omega arith) (omega arith)).1 in
    (omega (arith, end), omega arith)

pub returns-then-panel-piece : goal.returns-then-panel-piece
returns-then-panel-piece c =
    let a = c.args in
    let copy = c.copy_front in
    let sum = c.add_turned in
    let begin = c.begin in
    let done = c.copy_part in record {
      e_after = (λ hq hend e he.
          let byte : 2 * a.p * piece_rows + a.q * 16 + (e / 16 * piece_rows + e % 16) ≡ (2 * a.p + e / 16) * piece_rows + (a.q * 16 + e % 16) = omega arith in
          rw (begin.ensures, zero-add) at (done.ensures.by_index e he) ∙ sum.ensures e he ∙ ap₂ bit_xor (copy.ensures.by_index e he) (ap (byte_at a.turned.now) byte));
      by_index = λ at e other he. done.ensures.rows_kept at e (rw begin.ensures (other (omega arith))) he;
    }
