-- `forms_batching::lines::add_lines` meets its contract. The invariant: the products of the coordinates of the first g
-- tables are added, those from the n-th on as 0.
-- Assumes nothing.
use Prim.Native.Nat.{ℕ, ◌+◌, ◌*◌, ◌≤◌, ◌<◌}
use mathlib.Core.Path.{◌≡◌, sym, ap, ap₂, ◌∙◌}
use native.Mathlib.Omega.{arith}
use lib.ListN.{length}
use lib.Bits.{bit_xor, xor_zero_r}
use Rattle.protocol.specs.Lists.{block_at}
use Rattle.protocol.specs.Shape.{most_variables}
use Rattle.strings.specs.Sums.{byte_at, xor_sum}
use Rattle.strings.proofs.Rows.{row-end}
use Rattle.strings.proofs.XorLaws.{xor_assoc}
use Rattle.strings.proofs.SumLaws.{sum_same, sum_parts}
use Rattle.chunks.specs.Chunks.{chunk}
use Rattle.forms_choices.specs.Entries.{Tabled, up_to}
use Rattle.forms_columns.specs.Stacks.{byte_product}
use Rattle.forms_columns.proofs.ProductLaws.{product-zero}
use Rattle.forms_batching.specs.Lines.{chunk_bits, lines_tables, line_sum}
use Rattle.forms_batching.proofs.LineLaws.{weighed-rows, line-sum, products-table, products-all}
use Rattle.forms_batching.proofs.lines.add_lines.Invariants.{term}
use Rattle.std.specs.Int.{div_ceil}
use Rattle.std.proofs.lemmas.Grind.{div_ceil_times}
use Rattle.forms_batching.proofs.lines.add_lines.Goals as goal

pub loop-g-init : goal.loop-g-init
unfolding xor_sum
loop-g-init c = (λ χ e small chosen he. sym (xor_zero_r _))

-- where a table begins
begins : (g n k : ℕ) → k ≡ div_ceil n chunk_bits → g < k → g * chunk_bits < n
begins g n k is h = omega (arith, is, h, (div_ceil_times n chunk_bits (omega arith)).1)

pub overflow_mul-from : goal.overflow_mul-from
overflow_mul-from c = omega (arith, begins c.loop-g.g c.args.s.n _ c.div_ceil-g-end.ensures c.loop-g-test.true, c.requires.2)

pub row_at-table-requires : goal.row_at-table-requires
row_at-table-requires c =
    let a = c.args in
    let l = c.loop-g in
    let pre = c.requires in
    omega (arith, pre.1, row-end l.g lines_tables (a.s.m * chunk) (omega (arith, begins c.loop-g.g c.args.s.n _ c.div_ceil-g-end.ensures c.loop-g-test.true, pre.2)))

pub fill_sums-requires : goal.fill_sums-requires
fill_sums-requires c = (omega (arith, c.loop-g.auto.sums, c.requires.0, c.requires.3, c.requires.5), c.row_at-table.ensures.1)

pub overflow_sub-from : goal.overflow_sub-from
overflow_sub-from c = omega (arith, begins c.loop-g.g c.args.s.n _ c.div_ceil-g-end.ensures c.loop-g-test.true, c.requires.2)

pub add_products-requires : goal.add_products-requires
add_products-requires c =
    let l = c.loop-g in
    let pre = c.requires in
    let count = c.min-count.ensures in
    (pre.4, pre.6, pre.5.0, omega (arith, pre.0, l.auto.sums, c.fill_sums.auto.sums), pre.7, omega (arith, count, begins c.loop-g.g c.args.s.n _ c.div_ceil-g-end.ensures c.loop-g-test.true, pre.2), omega (arith, count))

pub loop-g-preserved : goal.loop-g-preserved
loop-g-preserved c =
    let a = c.args in
    let pre = c.requires in
    let l = c.loop-g in
    let row = c.row_at-table in
    let filled = c.fill_sums in
    let count = c.min-count.result in
    let under = begins c.loop-g.g c.args.s.n _ c.div_ceil-g-end.ensures c.loop-g-test.true in
    let done = c.add_products in
    let L = a.lines.now in
    let vs = a.vectors.now in
    let n = a.s.n in
    let m = a.s.m in
    let from = l.g * chunk_bits in
    let S = block_at L (m * chunk) l.g in
    let tabled : Tabled S filled.new.sums (a.s.groups * 32) = rw (sym row.ensures.0) filled.ensures in
    let long : length S ≡ m * chunk = ap length (sym row.ensures.0) ∙ row.ensures.1 in
    let next : from + chunk_bits ≡ (l.g + 1) * chunk_bits = omega arith in
    let inside : from + count ≤ most_variables = omega (arith, c.min-count.ensures, under, pre.2) in
    let end : count < chunk_bits → from + count ≡ most_variables = λ h. omega (arith, h, c.min-count.ensures, under, pre.2) in
    (λ χ e small chosen he.
    done.ensures S (λ q. up_to m (χ q)) m e (weighed-rows S filled.new.sums a.words.now χ m a.s.groups a.s.tau tabled long pre.5.1 pre.5.0.0 small chosen) he
    ∙ ap₂ bit_xor (l.invariant χ e small chosen he)
    (sum_same count _ (λ j. term a.s.degree L m χ vs e (from + j)) (λ j h. ap (byte_product a.s.degree (byte_at vs (e * most_variables + (from + j)))) (line-sum L χ m e l.g j (omega (arith, h, c.min-count.ensures))))
    ∙ products-table n from count (term a.s.degree L m χ vs e) pre.2 (omega (arith, c.min-count.ensures)) end (λ j h k. ap (λ (v : ℕ). byte_product a.s.degree v (line_sum L m χ e j)) (pre.8 e j he h (omega (arith, k, inside))) ∙ product-zero a.s.degree _))
    ∙ xor_assoc (byte_at a.mid.now e) (xor_sum from (up_to n (term a.s.degree L m χ vs e))) (xor_sum chunk_bits (λ j. up_to n (term a.s.degree L m χ vs e) (from + j)))
    ∙ ap (bit_xor (byte_at a.mid.now e)) (sym (sum_parts from chunk_bits (up_to n (term a.s.degree L m χ vs e))) ∙ ap (λ (k : ℕ). xor_sum k (up_to n (term a.s.degree L m χ vs e))) next))

pub returns : goal.returns
returns c =
    let a = c.args in
    let l = c.loop-g in
    let all : a.s.n ≤ l.g * chunk_bits = omega (arith, c.div_ceil-g-end.ensures, (div_ceil_times a.s.n chunk_bits (omega arith)).0) in
    λ χ e small chosen he. l.invariant χ e small chosen he ∙ ap (bit_xor (byte_at a.mid.now e)) (products-all a.s.n (l.g * chunk_bits) (term a.s.degree a.lines.now a.s.m χ a.vectors.now e) all)
