-- The sum of the coordinates that a row of bits selects is the sum of the entries that its half-bytes choose in the
-- table of sums.
-- Assumes nothing.
use Prim.Native.Nat.{ℕ, zero, suc, ◌+◌, ◌*◌, ◌-◌, ◌/◌, ◌%◌, ◌≤◌, ◌<◌}
use mathlib.Core.Path.{◌≡◌, refl, sym, ap, ap₂, ◌∙◌}
use mathlib.Core.List.{List}
use native.Mathlib.Nat.{mul-zero}
use native.Mathlib.Omega.{arith}
use lib.ListN.{length, get_or-eq_default}
use lib.Bits.{bit_xor}
use Rattle.protocol.specs.Strings.{bit}
use Rattle.strings.specs.Sums.{byte_at, bit_of, xor_sum, selected}
use Rattle.strings.proofs.SumLaws.{sum_same, sum_parts, sum_past}
use Rattle.strings.proofs.Meaning.{bit-place}
use Rattle.lanes.specs.Lanes.{lanes, lane_at}
use Rattle.hash.specs.Entries.{entry_lane, row_looked_up, LanesTabled}

-- ---- the bits of half a byte

low_bits : (x s : ℕ) → s < 4 → bit_of (x % 16) s ≡ bit_of x s
unfolding bit_of
low_bits x zero h = omega arith
low_bits x (suc zero) h = omega arith
low_bits x (suc (suc zero)) h = omega arith
low_bits x (suc (suc (suc zero))) h = omega arith
low_bits x (suc (suc (suc (suc s)))) h = absurd (omega arith)

high_bits : (x s : ℕ) → s < 4 → bit_of (x / 16) s ≡ bit_of x (4 + s)
unfolding bit_of
high_bits x zero h = omega arith
high_bits x (suc zero) h = omega arith
high_bits x (suc (suc zero)) h = omega arith
high_bits x (suc (suc (suc zero))) h = omega arith
high_bits x (suc (suc (suc (suc s)))) h = absurd (omega arith)

module _ (T : List ℕ) (e : ℕ) where
  place : ℕ → ℕ → ℕ → ℕ
  place x c s = bit_of x s * lane_at T (c + s) e

  entry-low : (b x : ℕ) → entry_lane T (b * 32 + x % 16) e ≡ xor_sum 4 (place x (b * 8))
  unfolding place
  entry-low b x =
      let q : (b * 32 + x % 16) / 16 * 4 ≡ b * 8 = omega arith in
      let r : (b * 32 + x % 16) % 16 ≡ x % 16 = omega arith in
      rw (q, r) (sum_same 4 (λ s. bit_of (x % 16) s * lane_at T (b * 8 + s) e) (place x (b * 8)) (λ s h. ap (λ (y : ℕ). y * lane_at T (b * 8 + s) e) (low_bits x s h)))

  entry-high : (b x : ℕ) → x < 256 → entry_lane T (b * 32 + 16 + x / 16) e ≡ xor_sum 4 (λ s. place x (b * 8) (4 + s))
  unfolding place
  entry-high b x h =
      let q : (b * 32 + 16 + x / 16) / 16 * 4 ≡ b * 8 + 4 = omega arith in
      let r : (b * 32 + 16 + x / 16) % 16 ≡ x / 16 = omega arith in
      rw (q, r) (sum_same 4 (λ s. bit_of (x / 16) s * lane_at T (b * 8 + 4 + s) e) (λ s. place x (b * 8) (4 + s)) (λ s hs. ap₂ (λ (y c : ℕ). y * lane_at T c e) (high_bits x s hs) (omega arith)))

module _ (row T : List ℕ) (e : ℕ) where
  term : ℕ → ℕ
  term c = bit row c * lane_at T c e

  select_more : (b x : ℕ) → x ≡ selected (b * 8) row T lanes e → bit_xor x (xor_sum 8 (place T e (byte_at row b) (b * 8))) ≡ selected (suc b * 8) row T lanes e
  unfolding place term
  select_more b x hx =
      let next : suc b * 8 ≡ b * 8 + 8 = omega arith in
      rw next
      (ap₂ bit_xor hx
      (sum_same 8 (place T e (byte_at row b) (b * 8)) (λ s. term (b * 8 + s)) (λ s h. ap (λ (y : ℕ). y * lane_at T (b * 8 + s) e) (sym (bit-place row b s h))))
      ∙ sym (sum_parts (b * 8) 8 term))

  -- a table has no coordinates from n on
  select_end : (n k : ℕ) → length T ≡ n * lanes → selected (n + k) row T lanes e ≡ selected n row T lanes e
  unfolding term
  select_end n k long =
      sum_past n k term
      (λ s.
      let past : length T ≤ (n + s) * lanes + e = omega arith in
      ap (λ (y : ℕ). bit row (n + s) * y) (get_or-eq_default T 0 past) ∙ mul-zero (bit row (n + s)))

  module _ (sums : List ℕ) (he : e < lanes) (size : ℕ) (tabled : LanesTabled T sums (size * 32)) (bytes : (i : ℕ) → byte_at row i < 256) where
    -- the two entries of a byte are its eight places
    byte_entries : (b : ℕ) → b < size
        → bit_xor (lane_at sums (b * 32 + byte_at row b % 16) e) (lane_at sums (b * 32 + 16 + byte_at row b / 16) e) ≡ xor_sum 8 (place T e (byte_at row b) (b * 8))
    byte_entries b h =
        ap₂ bit_xor (tabled (b * 32 + byte_at row b % 16) e (omega arith) he ∙ entry-low T e b (byte_at row b))
        (tabled (b * 32 + 16 + byte_at row b / 16) e (omega (arith, bytes b)) he ∙ entry-high T e b (byte_at row b) (bytes b))
        ∙ sym (sum_parts 4 4 (place T e (byte_at row b) (b * 8)))

    chosen_selects : (count : ℕ) → count ≤ size → row_looked_up count row sums e ≡ selected (count * 8) row T lanes e
    unfolding xor_sum
    chosen_selects zero h = refl
    chosen_selects (suc b) h =
        ap (bit_xor (row_looked_up b row sums e)) (byte_entries b (omega arith)) ∙ select_more b (row_looked_up b row sums e) (chosen_selects b (omega arith))

    pub look_up_selects : (n : ℕ) → length T ≡ n * lanes → n ≤ size * 8 → row_looked_up size row sums e ≡ selected n row T lanes e
    look_up_selects n long most =
        let whole : size * 8 ≡ n + (size * 8 - n) = omega arith in
        chosen_selects size (omega arith) ∙ ap (λ (k : ℕ). selected k row T lanes e) whole ∙ select_end n (size * 8 - n) long
