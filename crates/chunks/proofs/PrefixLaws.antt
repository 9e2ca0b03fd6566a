-- A string of 48 zeros, of which a prefix of w bytes is lent and given back.
-- Assumes nothing.
use Prim.Native.Nat.{ℕ, ◌*◌, ◌≤◌, ◌<◌}
use mathlib.Core.List.{List, ◌++◌}
use mathlib.Core.Path.{◌≡◌}
use native.Mathlib.Nat.{mul-one, mul-le-mul_left}
use native.Mathlib.Omega.{arith}
use lib.ListN.{length, replicate, take, drop, length-append, length-drop}
use lib.Seq.{length-take-le}

abbrev pub zeros : List ℕ
zeros = replicate 48 0

pub front : (w : ℕ) → w ≤ 48 → length (take w zeros) ≡ w
front w h = length-take-le w zeros h

pub whole : (w : ℕ) (r : List ℕ) → w ≤ 48 → length r ≡ w → length (r ++ drop w zeros) ≡ 48
whole w r h e = simp (length-append, length-drop) (omega (arith, h, e))

-- rows of one byte or more are no fewer bytes than rows
pub rows_le : (x w : ℕ) → 0 < w → x ≤ x * w
rows_le x w h = let some : 1 ≤ w = omega arith in omega (arith, mul-le-mul_left x some, mul-one x)
