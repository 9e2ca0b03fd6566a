-- The hash by the first bytes of the rows of H': what it is before any of them, and a block of bytes further on, where
-- what the block selects of its part of the table is added.
-- Assumes nothing.
use mathlib.Core.Path.{◌≡◌, refl, sym, ap, ap₂, ◌∙◌}
use mathlib.Core.List.{List}
use Prim.Native.Nat.{ℕ, zero, suc, ◌+◌, ◌*◌, ◌/◌, ◌%◌, ◌≤◌, ◌<◌}
use native.Mathlib.Decide.{dec_lt}
use native.Mathlib.Omega.{arith}
use lib.Bits.{bit_xor, xor_zero_l}
use lib.Dec.{lit<}
use lib.ListN.{drop}
use lib.Seq.{get_or-take, get_or-drop}
use Rattle.protocol.specs.Lists.{part, block_at}
use Rattle.protocol.specs.Strings.{bytes_for, bit}
use Rattle.protocol.specs.Setting.{Setting, alphabet_of}
use Rattle.protocol.specs.Shape.{Shape, k_of}
use Rattle.theorems.proofs.ListLaws.{row-end}
use Rattle.strings.specs.Sums.{byte_at, bit_of, xor_sum, selected}
use Rattle.strings.proofs.Rows.{row-byte}
use Rattle.strings.proofs.SumLaws.{sum_same, sum_parts, xor_swap}
use Rattle.strings.proofs.Meaning.{bit_is}
use Rattle.lanes.specs.Lanes.{lanes, lane_at}
use Rattle.hash.specs.Hashed.{block, front_lane}

pub front-none : (H' T : List ℕ) (width k ρ e : ℕ) → front_lane H' width k T 0 ρ e ≡ lane_at T (k + ρ) e
unfolding xor_sum
front-none H' T width k ρ e = xor_zero_l (lane_at T (k + ρ) e)

-- a lane before a block: the identity's coordinate before the first
pub front_start : (H' T : List ℕ) (width k from ρ e v : ℕ) → (from ≡ 0 → v ≡ lane_at T (k + ρ) e) → (0 < from → v ≡ front_lane H' width k T from ρ e)
    → v ≡ front_lane H' width k T from ρ e
front_start H' T width k zero ρ e v first later = first refl ∙ sym (front-none H' T width k ρ e)
front_start H' T width k (suc n) ρ e v first later = later (omega arith)

-- there is a byte in each block
pub block-some : (n x : ℕ) → 0 < n → x ≤ n → (x < n → x ≡ block) → 0 < x
block-some n x pos le full = go (dec_lt x n)
  where
    go : Dec (x < n) → 0 < x
    go (yes lt) = rw (full lt) (lit< tt)
    go (no ge) = omega arith

-- and in each row of H'
pub row-some : (g : Setting) (s : Shape) → 1 ≤ s.n → 0 < bytes_for (k_of (alphabet_of g) s)
unfolding bytes_for k_of
row-some g s h = omega arith

module _ (H' T : List ℕ) (width k from len ρ e : ℕ) (fits : from + len ≤ width) (lane : e < lanes) where
  abbrev row : List ℕ
  row = block_at H' width ρ

  abbrev row_part : List ℕ
  row_part = part H' (ρ * width + from) len

  abbrev table_part : List ℕ
  table_part = part T (from * 8 * lanes) (len * 8 * lanes)

  part-byte : (b : ℕ) → b < len → byte_at (part H' (ρ * width + from) len) b ≡ byte_at (block_at H' width ρ) (from + b)
  unfolding part
  part-byte b h =
      let place : ρ * width + from + b ≡ ρ * width + (from + b) = omega arith in
      get_or-take len (drop (ρ * width + from) H') b 0 h ∙ get_or-drop (ρ * width + from) H' b 0 ∙ ap (byte_at H') place ∙ sym (row-byte H' width ρ (from + b) (omega arith))

  part-bit : (c : ℕ) → c < len * 8 → bit row_part c ≡ bit row (from * 8 + c)
  part-bit c h =
      let byte : from + c / 8 ≡ (from * 8 + c) / 8 = omega arith in
      let place : c % 8 ≡ (from * 8 + c) % 8 = omega arith in
      bit_is row_part c ∙ ap₂ bit_of (part-byte (c / 8) (omega arith) ∙ ap (byte_at row) byte) place ∙ sym (bit_is row (from * 8 + c))

  part-lane : (c : ℕ) → c < len * 8 → lane_at (part T (from * 8 * lanes) (len * 8 * lanes)) c e ≡ lane_at T (from * 8 + c) e
  unfolding part
  part-lane c h =
      let place : from * 8 * lanes + (c * lanes + e) ≡ (from * 8 + c) * lanes + e = omega arith in
      get_or-take (len * 8 * lanes) (drop (from * 8 * lanes) T) (c * lanes + e) 0 (omega (arith, row-end c (len * 8) lanes h)) ∙ get_or-drop (from * 8 * lanes) T (c * lanes + e) 0 ∙ ap (byte_at T) place

  pub front_more : bit_xor (front_lane H' width k T from ρ e) (selected (len * 8) row_part table_part lanes e) ≡ front_lane H' width k T (from + len) ρ e
  front_more =
      let ends : from * 8 + len * 8 ≡ (from + len) * 8 = omega arith in
      xor_swap (selected (from * 8) row T lanes e) (lane_at T (k + ρ) e) (selected (len * 8) row_part table_part lanes e)
      ∙ ap (λ x. bit_xor x (lane_at T (k + ρ) e))
      (ap (bit_xor (selected (from * 8) row T lanes e)) (sum_same (len * 8) _ (λ c. bit row (from * 8 + c) * lane_at T (from * 8 + c) e) (λ c h. ap₂ ◌*◌ (part-bit c h) (part-lane c h)))
      ∙ sym (sum_parts (from * 8) (len * 8) (λ c. bit row c * lane_at T c e))
      ∙ ap (λ n. selected n row T lanes e) ends)
