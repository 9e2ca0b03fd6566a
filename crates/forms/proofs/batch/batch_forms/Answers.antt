-- `forms::batch::batch_forms` meets its contract. The invariant: the equations of the blocks before g are added (`BlockSums`).
-- Assumes nothing.
use borrow.Author.Rules.{rules}
use Prim.Native.Nat.{ℕ, ◌+◌, ◌≤◌, ◌<◌}
use mathlib.Core.List.{List}
use mathlib.Core.Path.{◌≡◌, sym, ap, ap₂, ◌∙◌}
use native.Mathlib.Nat.{mul-le-mul}
use native.Mathlib.Omega.{arith}
use lib.Bits.{bit_xor, xor_zero_r}
use Rattle.strings.specs.Sums.{byte_at, xor_sum}
use Rattle.forms_columns.specs.Stacks.{coordinate_of}
use Rattle.chunks.specs.Chunks.{most_block}
use Rattle.forms.specs.Batch.{block_forms, block_middles}
use Rattle.forms.proofs.BlockSums.{part-inside, sums_more, forms-part, middles_part}
use Rattle.forms.proofs.batch.batch_forms.Invariants.{formTerm, middleTerm}
use Rattle.std.proofs.Common.{min, ◌*◌}
use Rattle.std.specs.Int.{div_ceil}
use Rattle.std.proofs.lemmas.Grind.{div_ceil_times}
use Rattle.forms.proofs.BlockSums.{width_is}
use Rattle.forms.proofs.batch.batch_forms.Goals as goal

-- the equations of the blocks before g, where there is a block more
begins : (g m k : ℕ) → k ≡ div_ceil m most_block → g < k → (g * most_block < m) × (min (g * most_block) m ≡ g * most_block)
begins g m k is h =
    let most = (div_ceil_times m most_block (omega arith)).1 in
    (omega (arith, is, h, most), omega (arith, is, h, most))

pub overflow_mul-size : goal.overflow_mul-size
overflow_mul-size c =
    let narrow : c.div_ceil-width.result ≤ 1000 = omega (arith, c.requires.2, c.div_ceil-width.ensures) in
    omega (arith, mul-le-mul c.requires.2 narrow)

pub loop-g-init : goal.loop-g-init
unfolding xor_sum
loop-g-init c =
    let none : min 0 c.args.f.m ≡ 0 = omega arith in
    (c.requires.0, c.requires.1, rw none (λ e h. sym (xor_zero_r _)), rw none (λ e h. sym (xor_zero_r _)))

pub rows_at-requires : goal.rows_at-requires
rows_at-requires c =
    let a = c.args in
    let under = begins c.loop-g.g a.f.m _ c.div_ceil-g-end.ensures c.loop-g-test.true in
    let width = width_is a.f.n c.div_ceil-width.result c.div_ceil-width.ensures in
    part-inside (c.loop-g.g * most_block) c.min-count.result a.f.m _ (omega (arith, c.min-count.ensures, under.0)) (rw width c.requires.5)

pub rows_at-requires-in-loop-g : goal.rows_at-requires-in-loop-g
rows_at-requires-in-loop-g c =
    let a = c.args in
    let under = begins c.loop-g.g a.f.m _ c.div_ceil-g-end.ensures c.loop-g-test.true in
    let width = width_is a.f.n c.div_ceil-width.result c.div_ceil-width.ensures in
    part-inside (c.loop-g.g * most_block) c.min-count.result a.f.m _ (omega (arith, c.min-count.ensures, under.0)) (rw width c.requires.6)

pub batch_block-requires : goal.batch_block-requires
batch_block-requires c =
    let a = c.args in
    let pre = c.requires in
    let l = c.loop-g in
    let count = c.min-count.ensures in
    let under = begins l.g a.f.m _ c.div_ceil-g-end.ensures c.loop-g-test.true in
    let width = width_is a.f.n c.div_ceil-width.result c.div_ceil-width.ensures in
    (l.invariant.0, l.invariant.1, pre.2, pre.3, pre.4, rw (sym width) c.rows_at.ensures.1, rw (sym width) c.rows_at-in-loop-g.ensures.1, pre.7, pre.8, pre.9, omega (arith, l.auto.cells, pre.10), pre.11, pre.12, pre.13, pre.14, omega (arith, count, under.0), omega (arith, count), omega (arith, count, under.0), pre.16)

pub loop-g-preserved : goal.loop-g-preserved
loop-g-preserved c =
    let a = c.args in
    let l = c.loop-g in
    let k = c.min-count.result in
    let done = c.batch_block in
    let χ = a.chi.now in
    let vs = a.vectors.now in
    let from = l.g * most_block in
    let under = begins l.g a.f.m _ c.div_ceil-g-end.ensures c.loop-g-test.true in
    let width = width_is a.f.n c.div_ceil-width.result c.div_ceil-width.ensures in
    let next : min ((l.g + 1) * most_block) a.f.m ≡ from + k = omega (arith, under.0, c.min-count.ensures) in
    let A = rw width at c.rows_at.ensures.0 in
    let B = rw width at c.rows_at-in-loop-g.ensures.0 in (
      search rules,
      search rules,
      rw next (λ e h.
          done.ensures.lanes_added e h
          ∙ ap (bit_xor (byte_at l.quad e)) (ap (λ (M : List ℕ). block_forms a.f.degree a.f.n a.f.m from k M χ e (coordinate_of vs e)) A ∙ forms-part a.f.degree a.f.n a.f.m from k e a.a.now a.b.now χ (coordinate_of vs e))
          ∙ sums_more (byte_at a.quad.now e) (byte_at l.quad e) from k (formTerm a.f.degree a.f.n a.f.m a.a.now χ vs e) ((rw under.1 at l.invariant.2) e h)),
      rw next (λ e h.
          done.ensures.lanes_added_2 e h
          ∙ ap (bit_xor (byte_at l.lin e)) (ap₂ (λ (M r : List ℕ). block_middles a.f.degree a.f.n a.f.m from k M r (byte_at a.xs.now) χ e (coordinate_of vs e)) A B ∙ middles_part a.f.degree a.f.n a.f.m from k e a.a.now a.b.now χ (coordinate_of vs e) (byte_at a.xs.now))
          ∙ sums_more (byte_at a.lin.now e) (byte_at l.lin e) from k (middleTerm a.f.degree a.f.n a.f.m a.a.now a.b.now a.xs.now χ vs e) ((rw under.1 at l.invariant.3) e h)),
    )

pub returns : goal.returns
returns c =
    let a = c.args in
    let l = c.loop-g in
    let all = (div_ceil_times a.f.m most_block (omega arith)).0 in
    let end : min (l.g * most_block) a.f.m ≡ a.f.m = omega (arith, all, c.div_ceil-g-end.ensures) in
    record { lanes_added = (rw end at l.invariant.2); lanes_added_2 = (rw end at l.invariant.3) }
