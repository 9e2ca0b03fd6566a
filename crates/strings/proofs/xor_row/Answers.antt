-- `strings::xor_row` meets its contract. The part that was lent is row i, and the others stand outside it.
-- Assumes nothing.
use Prim.Native.Nat.{ℕ, ◌+◌, ◌*◌, ◌-◌, ◌≤◌, ◌<◌}
use mathlib.Core.Path.{◌≡◌, ap, ◌∙◌}
use native.Mathlib.Nat.{add-sub_cancel_left}
use native.Mathlib.Omega.{arith}
use lib.ListN.{length, length-take, length-drop}
use lib.Bits.{bit_xor}
use Rattle.strings.specs.Sums.{byte_at}
use Rattle.protocol.specs.Lists.{part, block_at}
use Rattle.strings.proofs.Rows.{row-byte, put_in, put_other}
use Rattle.strings.proofs.xor_row.Goals as goal

pub returns : goal.returns
unfolding block_at part
returns c =
    let a = c.args in
    let w = length a.src.now in
    let l = a.table.now in
    let at = a.i * w in
    let r = c.xor_into.new.dst in
    let e : at + w - at ≡ w = add-sub_cancel_left at w in
    let fits : at + w ≤ length l = omega arith in
    let long : length (block_at l w a.i) ≡ w = simp (length-take, length-drop) (omega arith) in
    let kept : length r ≡ w = rw e at c.xor_into.auto.dst ∙ long in
    let sums : ((b : ℕ) → b < length (block_at l w a.i) → byte_at r b ≡ bit_xor (byte_at (block_at l w a.i) b) (byte_at a.src.now b)) =
    rw e at c.xor_into.ensures in
    rw e (record {
      row_added = (λ b h. put_in at w l r fits kept b h ∙ sums b (rw long h) ∙ ap (λ (x : ℕ). bit_xor x (byte_at a.src.now b)) (row-byte l w a.i b h));
      rows_kept = put_other a.i w l r fits kept;
    })
