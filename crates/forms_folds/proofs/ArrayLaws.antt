-- Laws of an array that is written half by half.
-- Assumes nothing.
use mathlib.Core.Path.{◌≡◌, ◌∙◌}
use mathlib.Core.List.{List, ◌++◌}
use Prim.Native.Nat.{ℕ, ◌+◌, ◌<◌}
use native.Mathlib.Omega.{arith}
use lib.ListN.{length, take, drop, length-append, length-take, length-drop, get_or-append}
use borrow.Rule.Slice.PartMut.{put_mid, same_len_mid}
use Rattle.strings.specs.Sums.{byte_at}
use Rattle.strings.proofs.Rows.{put_before, put_in}

-- ---- an array of 128 bytes, whose first half became a, and then its last half b

module _ (a rest b : List ℕ) (first : length a ≡ 64) (old : length rest ≡ 64) (kept : length b ≡ length (take 64 (drop 64 (a ++ rest)))) where
  all : length (a ++ rest) ≡ 128
  all = rw (length-append, first, old)

  half : length b ≡ 64
  half = kept ∙ rw (length-take, length-drop, all)

  pub halves_long : length (put_mid 64 64 (a ++ rest) b) ≡ 128
  halves_long = same_len_mid 64 64 (a ++ rest) b kept ∙ all

  pub in-first : (k : ℕ) → k < 64 → byte_at (put_mid 64 64 (a ++ rest) b) k ≡ byte_at a k
  in-first k h = put_before 64 64 (a ++ rest) b (omega (arith, all)) half k h ∙ get_or-append a rest 0 k (omega arith)

  pub in_last : (k : ℕ) → k < 64 → byte_at (put_mid 64 64 (a ++ rest) b) (64 + k) ≡ byte_at b k
  in_last = put_in 64 64 (a ++ rest) b (omega (arith, all)) half
