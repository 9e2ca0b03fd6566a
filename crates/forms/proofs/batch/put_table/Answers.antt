-- `forms::batch::put_table` meets its contract. The invariant: the first i chunks of the table are there, and those
-- before it are as they were.
-- Assumes nothing.
use Prim.Native.Nat.{◌*◌, ◌<◌}
use mathlib.Core.Path.{◌≡◌, refl, ap, ◌∙◌}
use mathlib.Core.Logic.{⊎_elim}
use native.Mathlib.Nat.{add_assoc, eq-or-lt_of_le, le_of_suc-le-suc}
use native.Mathlib.Numerals.{add-one}
use native.Mathlib.Omega.{arith}
use Rattle.strings.specs.Sums.{byte_at}
use Rattle.strings.proofs.Rows.{row-end}
use Rattle.chunks.specs.Chunks.{chunk}
use Rattle.forms.proofs.batch.put_table.Goals as goal

pub loop-i-init : goal.loop-i-init
loop-i-init c = ((λ q f h k. absurd (omega arith)), λ r f h k. refl)

pub overflow_mul-g-in-loop-i : goal.overflow_mul-g-in-loop-i
overflow_mul-g-in-loop-i c = omega (arith, c.requires.0)

pub overflow_add-g : goal.overflow_add-g
overflow_add-g c = omega (arith, c.requires.0, c.loop-i-test.true)

pub overflow_mul-i : goal.overflow_mul-i
overflow_mul-i c = omega (arith, c.requires.1, row-end c.loop-i.i c.args.m c.args.width c.loop-i-test.true)

pub overflow_add-i : goal.overflow_add-i
overflow_add-i c = omega (arith, c.requires.1, c.requires.2, row-end c.loop-i.i c.args.m c.args.width c.loop-i-test.true)

pub put_chunk-requires : goal.put_chunk-requires
put_chunk-requires c =
    let a = c.args in
    let pre = c.requires in
    let l = c.loop-i in
    let lt = c.loop-i-test.true in
    let len = c.min-len.ensures in
    (omega (arith, l.auto.lines, pre.0, lt), omega (arith, pre.1, pre.2, len, row-end l.i a.m a.width lt), omega (arith, len))

pub loop-i-preserved : goal.loop-i-preserved
loop-i-preserved c =
    let l = c.loop-i in
    let done = c.put_chunk in (
      (λ q f h k.
          ⊎_elim
          (λ (same : q ≡ l.i). rw same (done.ensures.by_index f k))
          (λ (less : q < l.i). done.ensures.rows_kept _ f (λ x. omega (arith, x, less)) (omega (arith, k, c.min-len.ensures)) ∙ l.invariant.0 q f less k)
          (eq-or-lt_of_le (le_of_suc-le-suc (rw add-one at h)))),
      (λ r f h k. done.ensures.rows_kept r f (λ x. omega (arith, x, h)) k ∙ l.invariant.1 r f h k),
    )

pub returns : goal.returns
returns c =
    let a = c.args in
    let l = c.loop-i in record {
      by_index = (λ i f hi hf row.
          l.invariant.0 i f (omega arith) (omega (arith, c.min-len.ensures, hf, row))
          ∙ ap (byte_at a.b.now) (add_assoc (i * a.width) (a.g * chunk) f));
      by_index_2 = l.invariant.1;
    }
