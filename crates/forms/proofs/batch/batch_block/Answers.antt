-- `forms::batch::batch_block` meets its contract: the words of what the batching bytes choose, the lines, and the forms
-- of the batched matrix with the lines (`BatchLaws`).
-- Assumes nothing.
use Prim.Native.Nat.{ℕ, ◌+◌, ◌*◌, ◌^◌, ◌<◌}
use mathlib.Core.Path.{ap, ap₂, ◌∙◌}
use native.Mathlib.Omega.{arith}
use lib.Bits.{bit_xor}
use Rattle.galois.specs.Degrees.{degree_of}
use Rattle.strings.specs.Sums.{byte_at}
use Rattle.forms_columns.specs.Stacks.{coordinate_of}
use Rattle.forms.specs.Batch.{block_bytes}
use Rattle.forms.proofs.BatchLaws.{form_is, polar_is, lines_are, middle_is}
use Rattle.forms.proofs.BlockSums.{width_is}
use Rattle.forms.proofs.batch.batch_block.Goals as goal

pub put_lines-requires : goal.put_lines-requires
put_lines-requires c =
    let pre = c.requires in
    let width = width_is c.args.k.forms.n c.div_ceil-width.result c.div_ceil-width.ensures in
    (omega (arith, pre.16), rw width pre.6, omega (arith, pre.2, c.div_ceil-width.ensures))

pub add_forms-requires : goal.add_forms-requires
add_forms-requires c =
    let pre = c.requires in
    let groups = c.groups_for-groups in
    let chosen = c.fill_words in
    let width = width_is c.args.k.forms.n c.div_ceil-width.result c.div_ceil-width.ensures in
    (pre.0, omega arith, rw width pre.5, width, pre.2, pre.15, pre.16, pre.4, pre.3, groups.ensures, omega (arith, chosen.auto.words, pre.3), pre.8, pre.11, pre.12, pre.13, pre.14, omega (arith, pre.16, c.put_lines.auto.lines), pre.10, pre.9, pre.18)

pub returns : goal.returns
returns c =
    let pre = c.requires in
    let a = c.args in
    let width = width_is a.k.forms.n c.div_ceil-width.result c.div_ceil-width.ensures in
    let chosen = c.fill_words in
    let lines = rw width at c.put_lines.ensures in
    let formed = rw width at c.add_forms.ensures in
    let vs = a.vectors.now in
    let χ = a.chi.now in
    let small : (k : ℕ) → byte_at χ k < 256 = λ k. (c.type_inv.chi k).fits in
    let X = block_bytes a.k.forms.m a.k.from χ in
    let each : (q i : ℕ) → X q i < 256 = λ q i. small (q * a.k.forms.m + a.k.from + i) in record {
      lanes_added = (λ e h. formed.by_index X e each chosen.ensures h ∙ ap (bit_xor (byte_at a.quad.now e)) (form_is a.k.forms.degree a.k.forms.n a.k.count e a.a.now X (coordinate_of vs e)));
      lanes_added_2 = (λ e h.
          let g : ℕ → ℕ = coordinate_of vs e in
          let gs : (k : ℕ) → k < a.k.forms.n → g k < 2 ^ degree_of a.k.forms.degree = λ k l. pre.18 e k h (omega (arith, l, pre.2)) in
          formed.by_index_2 X e each chosen.ensures h
          ∙ ap₂ (λ (u v : ℕ). bit_xor (bit_xor (byte_at a.lin.now e) u) v) (polar_is a.k.forms.degree a.k.forms.n a.k.count e a.a.now X g gs (byte_at a.xs.now) pre.12) (lines_are a.k.forms.degree a.k.forms.n a.k.count e a.a.now X g a.b.now c.put_lines.new.lines lines)
          ∙ middle_is a.k.forms.degree a.k.forms.n a.k.count e a.a.now X g gs (byte_at a.xs.now) pre.12 a.b.now (byte_at a.lin.now e));
    }
