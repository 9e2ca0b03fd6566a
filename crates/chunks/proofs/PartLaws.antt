-- A part of a string that was lent as a slice and given back with its length: it stands at its place, and the other
-- parts are left.
-- Assumes nothing.
use Rattle.std.proofs.Common.{◌≡◌, ℕ, ◌+◌, ◌*◌, ◌-◌, ◌<◌, ◌≤◌, List, length, take, drop, arith, length-take, length-drop, ◌∙◌}
use native.Mathlib.Nat.{add-sub_cancel_left}
use borrow.Rule.Slice.PartMut.{put_mid}
use Rattle.strings.specs.Sums.{byte_at}
use Rattle.strings.specs.Rows.{RowsKept}
use Rattle.strings.proofs.Rows.{put_in, put_other}

module _ (g w : ℕ) (l r : List ℕ) (fits : g * w + w ≤ length l) (same : length r ≡ length (take (g * w + w - g * w) (drop (g * w) l))) where
  width : g * w + w - g * w ≡ w
  width = add-sub_cancel_left (g * w) w

  long : length r ≡ w
  long = let part : length (take w (drop (g * w) l)) ≡ w = simp (length-take, length-drop) (omega arith) in rw width at same ∙ part

  pub part-is : (b : ℕ) → b < w → byte_at (put_mid (g * w) (g * w + w - g * w) l r) (g * w + b) ≡ byte_at r b
  part-is b h = rw width (put_in (g * w) w l r fits long b h)

  pub others-kept : RowsKept w g l (put_mid (g * w) (g * w + w - g * w) l r)
  others-kept = rw width (put_other g w l r fits long)
