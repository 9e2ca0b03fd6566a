-- `prover_sections::vole::write_correction` meets its contract. The sum of two rows of the sums is put in row e of the
-- section.
-- Assumes nothing.
use Prim.Native.Nat.{ℕ, ◌+◌, ◌*◌, ◌-◌, ◌≤◌, ◌<◌}
use mathlib.Core.Path.{◌≡◌, ap, ap₂, ◌∙◌}
use mathlib.Core.List.{List}
use native.Mathlib.Nat.{add-sub_cancel_left}
use native.Mathlib.Omega.{arith}
use lib.Bits.{bit_xor}
use lib.ListN.{length, length-take, length-drop}
use Rattle.protocol.specs.Lists.{part, block_at}
use Rattle.strings.specs.Sums.{byte_at}
use Rattle.strings.proofs.Rows.{row-byte, put_in, put_other}
use Rattle.prover_sections.proofs.vole.write_correction.Goals as goal

pub returns : goal.returns
unfolding block_at part
returns c =
    let a = c.args in
    let next = c.row_at-next in
    let first = c.row_at-first in
    let sum = c.xor_of in
    let l = a.out.now in
    let at = a.e * a.w in
    let e : at + a.w - at ≡ a.w = add-sub_cancel_left at a.w in
    let fits : at + a.w ≤ length l = omega arith in
    let long : length (block_at l a.w a.e) ≡ a.w = simp (length-take, length-drop) (omega arith) in
    let kept : length sum.new.dst ≡ a.w = rw e at sum.auto.dst ∙ long in
    let sums : ((b : ℕ) → b < length (block_at l a.w a.e) → byte_at sum.new.dst b ≡ bit_xor (byte_at next.result.now b) (byte_at first.result.now b)) = rw e at sum.ensures in
    let row : (s : List ℕ) (i b : ℕ) → s ≡ block_at a.sums.now a.w i → b < a.w → byte_at s b ≡ byte_at a.sums.now (i * a.w + b) = λ s i b is h. ap (λ z. byte_at z b) is ∙ row-byte a.sums.now a.w i b h in
    rw e (record {
      by_index = (λ b h.
          let start : 0 * a.w + b ≡ b = omega arith in
          put_in at a.w l sum.new.dst fits kept b h ∙ sums b (rw long h)
          ∙ ap₂ bit_xor (row next.result.now (a.e + 1) b next.ensures.0 h) (row first.result.now 0 b first.ensures.0 h ∙ ap (byte_at a.sums.now) start));
      by_index_2 = put_other a.e a.w l sum.new.dst fits kept;
    })
