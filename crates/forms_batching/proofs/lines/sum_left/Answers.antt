-- `forms_batching::lines::sum_left` meets its contract. The invariant: the rows of the first q sixteens are added.
-- Assumes nothing.
use borrow.Author.Rules.{rules}
use Prim.Native.Nat.{ℕ, ◌+◌, ◌*◌, ◌≤◌, ◌<◌}
use mathlib.Core.Path.{◌≡◌, sym, ap, ◌∙◌}
use native.Mathlib.Nat.{mul_assoc, zero-add}
use native.Mathlib.Omega.{arith}
use lib.ListN.{get_or-replicate}
use lib.Bits.{bit_xor}
use Rattle.strings.specs.Sums.{xor_sum}
use Rattle.strings.proofs.Rows.{row-end}
use Rattle.strings.proofs.SumLaws.{sum_more}
use Rattle.chunks.specs.Chunks.{chunk}
use Rattle.forms_batching.proofs.lines.sum_left.Invariants.{masked}
use Rattle.forms_batching.proofs.lines.sum_left.Goals as goal

-- a chunk of the rows, among all
chunk_end : (q i m rows : ℕ) → q < rows → i < m → (q * m + i) * chunk + chunk ≤ rows * (m * chunk)
chunk_end q i m rows hq hi =
    let end = row-end q rows (m * chunk) hq in
    let row = row-end i m chunk hi in
    let all : q * m * chunk ≡ q * (m * chunk) = mul_assoc q m chunk in
    omega arith

pub loop-q-init : goal.loop-q-init
unfolding xor_sum
loop-q-init c = λ k h. get_or-replicate chunk k 0 0 h

pub overflow_mul-q : goal.overflow_mul-q
overflow_mul-q c =
    let a = c.args in
    let l = c.loop-q in
    let end = chunk_end l.q a.i a.m a.rows (omega arith) (omega arith) in
    omega (arith, end)

pub overflow_add-q : goal.overflow_add-q
overflow_add-q c =
    let a = c.args in
    let l = c.loop-q in
    let end = chunk_end l.q a.i a.m a.rows (omega arith) (omega arith) in
    omega (arith, end)

pub overflow_mul-q-in-loop-q : goal.overflow_mul-q-in-loop-q
overflow_mul-q-in-loop-q c =
    let a = c.args in
    let l = c.loop-q in
    let end = chunk_end l.q a.i a.m a.rows (omega arith) (omega arith) in
    omega (arith, end)

pub add_masked-requires : goal.add_masked-requires
add_masked-requires c =
    let a = c.args in
    let l = c.loop-q in
    let end = chunk_end l.q a.i a.m a.rows (omega arith) (omega arith) in
    (omega (arith, end, c.requires.2), search rules)

pub loop-q-preserved : goal.loop-q-preserved
loop-q-preserved c =
    let a = c.args in
    let l = c.loop-q in
    let done = c.add_masked in
    λ k h. done.ensures k h ∙ ap (λ (x : ℕ). bit_xor x (masked a.cells.now a.bits.now a.m a.top a.i k l.q)) (l.invariant k h) ∙ sym (sum_more l.q (masked a.cells.now a.bits.now a.m a.top a.i k))

pub copy_part-requires : goal.copy_part-requires
copy_part-requires c =
    (omega (arith, c.requires.0, c.requires.1), omega arith)

pub returns : goal.returns
returns c =
    let l = c.loop-q in
    let done = c.copy_part in
    let end : l.q ≡ c.args.rows = omega arith in
    record { by_index = (λ k h. rw zero-add at (done.ensures.by_index k h) ∙ rw end at (l.invariant k h)); rows_kept = done.ensures.rows_kept }
