-- `forms_columns::fronts::put_columns` meets its contract. The invariant: the columns below k are put, and the parts
-- beside them are as they were.
-- Assumes nothing.
use mathlib.Core.Path.{◌≡◌, refl}
use native.Mathlib.Omega.{arith}
use Rattle.forms_columns.proofs.FrontLaws.{last-column, columns_more, beside_more}
use Rattle.forms_columns.proofs.fronts.put_columns.Goals as goal

pub loop-k-init : goal.loop-k-init
loop-k-init c = record { put = λ k j h. absurd (omega arith); beside = λ x j beside h. refl }

pub overflow_mul-k : goal.overflow_mul-k
overflow_mul-k c = omega (arith, last-column c.args.step c.loop-k.k (omega arith))

pub overflow_add-g : goal.overflow_add-g
overflow_add-g c = omega (arith, last-column c.args.step c.loop-k.k (omega arith))

pub copy_part-requires : goal.copy_part-requires
copy_part-requires c = (omega (arith, last-column c.args.step c.loop-k.k (omega arith)), omega arith)

pub loop-k-preserved : goal.loop-k-preserved
loop-k-preserved c =
    let a = c.args in
    let l = c.loop-k in
    let done = c.copy_part in record {
      put = columns_more a.g a.step l.k a.cols.now l.dst done.new.dst c.requires.0 done.ensures.by_index done.ensures.rows_kept l.invariant.put;
      beside = beside_more a.g a.step l.k a.dst.now l.dst done.new.dst done.ensures.rows_kept l.invariant.beside;
    }

pub returns : goal.returns
returns c =
    let l = c.loop-k in
    let end : l.k ≡ 8 = omega arith in
    record { by_index = rw end at l.invariant.put; beside_block = rw end at l.invariant.beside }
