-- `forms_batching::lines::add_left` meets its contract: where the polar form is not asked for, nothing is added. What
-- is added is `LineLaws`.
-- Assumes nothing.
use Prim.Native.Nat.{ℕ, ◌+◌, ◌*◌}
use mathlib.Core.Bool.{true≢false}
use mathlib.Core.Path.{refl, sym, ap, ◌∙◌}
use native.Mathlib.Omega.{arith}
use lib.Bits.{bit_xor}
use Rattle.strings.specs.Sums.{bit_of, xor_sum}
use Rattle.strings.proofs.Meaning.{bitOf_xor}
use Rattle.chunks.specs.Chunks.{cell_at}
use Rattle.forms_batching.specs.Lines.{line_byte}
use Rattle.forms_batching.proofs.LineLaws.{half-left-bit}
use Rattle.forms_batching.proofs.lines.add_left.Goals as goal

pub add_each-requires : goal.add_each-requires
add_each-requires c =
    let pre = c.requires in
    (pre.0, omega (arith, pre.1, c.sum_each.auto.sums), pre.3, pre.4)

pub returns-then-polar : goal.returns-then-polar
returns-then-polar c =
    let a = c.args in
    let summed = c.sum_each in
    let each = c.add_each in
    let chunk_of : ℕ → ℕ → ℕ = cell_at summed.new.sums in record {
      left_added = (λ on x i h z bit masks hi hh hz.
          ap (λ (b : ℕ). bit_of b z) (each.ensures.by_index i h hi hh)
          ∙ bitOf_xor (line_byte a.lines.now a.s.m i (a.s.panel * 2 + h)) (xor_sum 16 (λ f. chunk_of i (h * 16 + f))) z
          ∙ ap (bit_xor (bit_of (line_byte a.lines.now a.s.m i (a.s.panel * 2 + h)) z)) (half-left-bit a.cells.now a.bits.now (chunk_of i) x a.s.m i a.s.top a.s.rows h z (λ k. (c.type_inv.cells k).fits) bit masks c.requires.5 hh (λ k. summed.ensures i k hi)));
      lines_beside = each.ensures.lines_beside;
      lines_unchanged = λ off. absurd (true≢false (sym c.if-polar.true ∙ off));
    }

pub returns-else-polar : goal.returns-else-polar
returns-else-polar c = record { left_added = (λ on. absurd (true≢false (sym on ∙ c.if-polar.false))); lines_beside = (λ i k h o. refl); lines_unchanged = λ off. refl }
