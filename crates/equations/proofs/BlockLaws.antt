-- A block of a part is a block; the bytes of a string hold its bits, and it has none past its end.
-- Assumes nothing.
use mathlib.Core.Path.{◌≡◌, sym, ap, ◌∙◌}
use mathlib.Core.Bool.{true}
use mathlib.Core.List.{List}
use Prim.Native.Nat.{ℕ, ◌+◌, ◌*◌, ◌/◌, ◌%◌, ◌^◌, ◌≤◌, ◌<◌}
use native.Mathlib.Nat.{zero-div, add-mul}
use native.Mathlib.Decide.{dec_lt}
use native.Mathlib.Omega.{arith}
use lib.ListN.{length, take, drop, get_or-eq_default}
use lib.Seq.{drop-drop}
use Rattle.protocol.specs.Lists.{part, block_at}
use Rattle.protocol.specs.Strings.{bytes_for, bit, spare_zero}
use Rattle.theorems.proofs.ListLaws.{part-take}
use Rattle.theorems.proofs.StringLaws.{spare-at}
use Rattle.strings.proofs.Rows.{row-end}

-- block i of the part of a string from block f on is block f + i
pub block-part : (s : List ℕ) (w f c i : ℕ) → i < c → block_at (take (c * w) (drop (f * w) s)) w i ≡ block_at s w (f + i)
unfolding block_at part
block-part s w f c i h =
    part-take w (i * w) (c * w) (drop (f * w) s) (row-end i c w h)
    ∙ ap (take w) (drop-drop (i * w) (f * w) s ∙ ap (λ (k : ℕ). drop k s) (sym (add-mul f i w)))

pub bytes-enough : (n : ℕ) → n ≤ bytes_for n * 8
unfolding bytes_for
bytes-enough n = omega arith

pub bit_past : (s : List ℕ) (c : ℕ) → length s * 8 ≤ c → bit s c ≡ 0
unfolding bit
bit_past s c h =
    let past : length s ≤ c / 8 = omega arith in
    ap (λ (x : ℕ). x / 2 ^ (c % 8) % 2) (get_or-eq_default s 0 past) ∙ ap (λ (x : ℕ). x % 2) (zero-div (2 ^ (c % 8)))

pub spare-past : (s : List ℕ) (n c : ℕ) → spare_zero s n ≡ true → n ≤ c → bit s c ≡ 0
spare-past s n c z h = go (dec_lt c (length s * 8))
  where
    go : Dec (c < length s * 8) → bit s c ≡ 0
    go (yes l) = spare-at n s z c h l
    go (no l) = bit_past s c (omega arith)
