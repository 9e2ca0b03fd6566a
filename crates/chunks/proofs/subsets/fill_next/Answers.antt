-- `chunks::subsets::fill_next` meets its contract. The invariant: the entries below v are made, and what they are made
-- of is as it was.
-- Assumes nothing.
use Rattle.std.proofs.Common.{rules, ◌≡◌, ℕ, ◌+◌, ◌*◌, ◌≤◌, ◌<◌, ⊎_elim, ap, ◌∙◌, eq-or-lt_of_le, le_of_suc-le-suc, add-one, arith, length}
use lib.Bits.{bit_xor}
use Rattle.strings.specs.Sums.{byte_at}
use Rattle.strings.proofs.Rows.{row-end}
use Rattle.chunks.proofs.PrefixLaws.{rows_le}
use Rattle.chunks.proofs.subsets.fill_next.Goals as goal

-- no entry is past the end of memory
far : (base count w long : ℕ) → (base + count + count) * w ≤ long → 0 < w → base + count + count ≤ long
far base count w long fits some = omega (arith, fits, rows_le (base + count + count) w some)

pub overflow_add-base : goal.overflow_add-base
overflow_add-base c =
    let a = c.args in
    search (rules, far a.base a.count a.w (length a.sums.now) c.requires.0 c.requires.3)

pub overflow_add-base-in-loop-v : goal.overflow_add-base-in-loop-v
overflow_add-base-in-loop-v c =
    let a = c.args in
    search (rules, far a.base a.count a.w (length a.sums.now) c.requires.0 c.requires.3)

pub overflow_add-base-in-loop-v-2 : goal.overflow_add-base-in-loop-v-2
overflow_add-base-in-loop-v-2 c =
    let a = c.args in
    search (rules, far a.base a.count a.w (length a.sums.now) c.requires.0 c.requires.3)

pub fill_entry-requires : goal.fill_entry-requires
fill_entry-requires c =
    let v = c.loop-v.v in
    let a = c.args in
    let pre = c.requires in
    let end = a.base + a.count + a.count in
    (omega (arith, pre.0, row-end (a.base + v) end a.w (omega arith)), omega (arith, pre.0, row-end (a.base + a.count + v) end a.w (omega arith)), pre.1, pre.2)

pub loop-v-preserved : goal.loop-v-preserved
loop-v-preserved c =
    let a = c.args in
    let l = c.loop-v in
    let done = c.fill_entry in (
      (λ i f h k.
          ⊎_elim
          (λ (e : i ≡ l.v). rw e (done.ensures.by_index f k ∙ ap (λ (x : ℕ). bit_xor x (byte_at a.row.now f)) (l.invariant.1 (a.base + l.v) f (omega arith) k)))
          (λ (lt : i < l.v). done.ensures.rows_kept (a.base + a.count + i) f (λ e. omega (arith, lt, e)) k ∙ l.invariant.0 i f lt k)
          (eq-or-lt_of_le (le_of_suc-le-suc (rw add-one at h)))),
      (λ q f h k. done.ensures.rows_kept q f (λ e. omega (arith, h, e)) k ∙ l.invariant.1 q f h k),
    )
