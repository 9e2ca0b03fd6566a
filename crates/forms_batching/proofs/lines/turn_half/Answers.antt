-- `forms_batching::lines::turn_half` meets its contract. The part that was lent is half h, and the other stands outside
-- it.
-- Assumes nothing.
use Prim.Native.Nat.{ℕ, ◌+◌, ◌*◌, ◌-◌, ◌/◌, ◌%◌, ◌≤◌}
use mathlib.Core.Path.{◌≡◌, ap, ◌∙◌}
use native.Mathlib.Nat.{add-sub_cancel_left}
use native.Mathlib.Omega.{arith}
use lib.ListN.{length, take, drop, length-take, length-drop}
use Rattle.strings.specs.Sums.{byte_at, bit_of}
use Rattle.strings.proofs.Rows.{put_in, put_other}
use Rattle.chunks.specs.Chunks.{chunk}
use Rattle.forms_batching.proofs.lines.turn_half.Goals as goal

pub returns : goal.returns
returns c =
    let a = c.args in
    let l = a.elements.now in
    let at = a.h * 128 in
    let done = c.turn_rows in
    let s = done.new.out in
    let e : at + 128 - at ≡ 128 = add-sub_cancel_left at 128 in
    let fits : at + 128 ≤ length l = omega arith in
    let long : length (take 128 (drop at l)) ≡ 128 = simp (length-take, length-drop) (omega arith) in
    let kept : length s ≡ 128 = rw e at done.auto.out ∙ long in record {
      by_index = rw e (λ r p hr hp.
          let place : a.h * 16 + p * chunk + r / 8 ≡ p * chunk + (a.h * 16 + r / 8) = omega arith in
          ap (λ (x : ℕ). bit_of x p) (put_in at 128 l s fits kept r hr) ∙ done.ensures r p hr hp ∙ ap (λ (j : ℕ). bit_of (byte_at a.planes.now j) (r % 8)) place);
      rows_kept = rw e (put_other a.h 128 l s fits kept);
      by_index_2 = λ k. (c.type_inv.elements k).fits;
    }
