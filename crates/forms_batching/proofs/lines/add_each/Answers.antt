-- `forms_batching::lines::add_each` meets its contract. The invariant: the lines below i are added to at the panel's
-- columns, and all else is as it was.
-- Assumes nothing.
use Prim.Native.Nat.{ℕ, ◌+◌, ◌*◌, ◌/◌, ◌%◌}
use mathlib.Core.List.{List}
use mathlib.Core.Path.{◌≡◌, refl, ap, ap₂, ◌∙◌}
use native.Mathlib.Omega.{arith}
use lib.ListN.{set, length-set}
use lib.Bits.{bit_xor}
use Rattle.strings.specs.Sums.{byte_at, xor_sum}
use Rattle.strings.proofs.SumLaws.{sum_same}
use Rattle.chunks.specs.Chunks.{chunk}
use Rattle.forms_batching.proofs.LineLaws.{table-end, panel_more}
use Rattle.forms_batching.proofs.lines.add_each.Invariants.{half}
use Rattle.forms_batching.proofs.lines.add_each.Goals as goal

half-from : (S : List ℕ) (i h at : ℕ) → at ≡ i * chunk + h * 16 → xor_sum 16 (λ f. byte_at S (at + f)) ≡ half S i h
half-from S i h at e = sum_same 16 _ _ (λ f l. let place : at + f ≡ i * chunk + (h * 16 + f) = omega arith in ap (byte_at S) place)

-- where a panel begins in its line
line-place : (J m i : ℕ) → (J / 16 * m + i) * chunk + J % 16 * 2 ≡ (J * 2 / chunk * m + i) * chunk + J * 2 % chunk
line-place J m i =
    let table : J / 16 ≡ J * 2 / chunk = omega arith in
    let byte : J % 16 * 2 ≡ J * 2 % chunk = omega arith in
    ap₂ (λ (x y : ℕ). (x * m + i) * chunk + y) table byte

pub overflow_mul-first : goal.overflow_mul-first
overflow_mul-first c =
    omega (arith, c.requires.0, table-end c.args.panel c.args.m c.requires.3)

pub loop-i-init : goal.loop-i-init
loop-i-init c = ((λ j h l. absurd (omega arith)), λ j k h o. refl)

pub overflow_add-at : goal.overflow_add-at
overflow_add-at c =
    omega (arith, c.requires.0, table-end c.args.panel c.args.m c.requires.3)

pub overflow_mul-at : goal.overflow_mul-at
overflow_mul-at c =
    omega (arith, c.requires.0, table-end c.args.panel c.args.m c.requires.3)

pub overflow_mul-at-in-loop-i : goal.overflow_mul-at-in-loop-i
overflow_mul-at-in-loop-i c =
    omega (arith, c.requires.0, table-end c.args.panel c.args.m c.requires.3)

pub overflow_add-at-in-loop-i : goal.overflow_add-at-in-loop-i
overflow_add-at-in-loop-i c =
    omega (arith, c.requires.0, table-end c.args.panel c.args.m c.requires.3)

pub bounds-lines-at : goal.bounds-lines-at
bounds-lines-at c =
    omega (arith, c.requires.0, table-end c.args.panel c.args.m c.requires.3, c.loop-i.auto.lines)

pub bounds-lines-at-in-loop-i : goal.bounds-lines-at-in-loop-i
bounds-lines-at-in-loop-i c =
    omega (arith, c.requires.0, table-end c.args.panel c.args.m c.requires.3, c.loop-i.auto.lines)

pub overflow_add-lines : goal.overflow_add-lines
overflow_add-lines c =
    omega (arith, c.requires.0, table-end c.args.panel c.args.m c.requires.3, c.loop-i.auto.lines)

pub bounds-lines-at-in-loop-i-2 : goal.bounds-lines-at-in-loop-i-2
bounds-lines-at-in-loop-i-2 c =
    simp length-set (omega (arith, c.requires.0, table-end c.args.panel c.args.m c.requires.3, c.loop-i.auto.lines))

pub bounds-lines-at-in-loop-i-3 : goal.bounds-lines-at-in-loop-i-3
bounds-lines-at-in-loop-i-3 c =
    simp length-set (omega (arith, c.requires.0, table-end c.args.panel c.args.m c.requires.3, c.loop-i.auto.lines))

pub loop-i-preserved : goal.loop-i-preserved
loop-i-preserved c =
    let a = c.args in
    let pre = c.requires in
    let l = c.loop-i in
    let first = c.sum_at in
    let second = c.sum_at-in-loop-i in
    let S = a.sums.now in
    let at = (a.panel / 16 * a.m + l.i) * chunk + a.panel % 16 * 2 in
    let y = bit_xor (byte_at l.lines at) first.result in
    panel_more (half S) a.m a.panel a.lines.now l.lines l.i at y _ (line-place a.panel a.m l.i) (omega arith) (omega (arith, pre.0, l.auto.lines, table-end a.panel a.m pre.3))
    (ap (bit_xor (byte_at l.lines at)) (first.ensures ∙ half-from S l.i 0 _ (omega arith)))
    (ap (bit_xor (byte_at (set l.lines at y) (at + 1))) (second.ensures ∙ half-from S l.i 1 _ (omega arith)))
    l.invariant

pub returns : goal.returns
returns c =
    let l = c.loop-i in
    let end : l.i ≡ c.args.m = omega arith in
    record { by_index = rw end at l.invariant.0; lines_beside = λ i k hi other. l.invariant.1 i k hi (λ lt. other) }
