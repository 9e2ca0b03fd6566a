-- `verifier_product::add_bit` meets its contract. The part that was lent is row c, and the others stand outside it.
-- Assumes nothing.
use Prim.Native.Nat.{ℕ, ◌+◌, ◌*◌, ◌-◌, ◌≤◌, ◌<◌}
use mathlib.Core.List.{List}
use mathlib.Core.Path.{◌≡◌, ap, ◌∙◌}
use native.Mathlib.Nat.{add-sub_cancel_left}
use native.Mathlib.Omega.{arith}
use lib.ListN.{length}
use lib.Bits.{bit_xor}
use Rattle.strings.specs.Sums.{byte_at}
use Rattle.strings.proofs.Rows.{put_in, put_other, row-byte}
use Rattle.lanes.specs.Lanes.{lanes}
use Rattle.verifier_product.proofs.add_bit.Goals as goal

pub returns : goal.returns
returns c =
    let a = c.args in
    let l = a.table.now in
    let at = a.c * lanes in
    let r = c.add_masked.new.acc in
    let e : at + lanes - at ≡ lanes = add-sub_cancel_left at lanes in
    let fits : at + lanes ≤ length l = omega arith in
    let row : (b : ℕ) → b < lanes → byte_at r b ≡ bit_xor (byte_at l (at + b)) (a.bit * byte_at a.delta.now b) =
    λ b h. c.add_masked.ensures b h ∙ ap (λ (x : List ℕ). bit_xor (byte_at x b) (a.bit * byte_at a.delta.now b)) c.row_of.ensures ∙ ap (λ (x : ℕ). bit_xor x (a.bit * byte_at a.delta.now b)) (row-byte l lanes a.c b h) in
    let put = c.copy_from_slice.ensures.after in
    rw (e, put) (record {
      by_index = (λ b h. put_in at lanes l r fits c.add_masked.array_long b h ∙ row b h);
      by_index_2 = put_other a.c lanes l r fits c.add_masked.array_long;
    })
