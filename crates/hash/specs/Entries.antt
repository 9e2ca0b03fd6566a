-- The table of the sums of each four coordinates of the vectors of all repetitions.
--   entry_lane T k e == byte e of entry k of the table of sums: of the coordinates 4·⌊k/16⌋ + s, s < 4, those with bit s
--     of k mod 16 set
--   LanesTabled T sums count == sums holds the first count entries, one after the other
--   byte_looked_up b x sums e == the sum of the two entries that byte b of a row chooses, where it is x
--   row_looked_up count row sums e == the sum of the entries that the first count bytes of a row choose, two for each
--     byte
--   RowSelected row sums out == out is what the row selects of the coordinates of any table that was so summed
-- Assumes nothing.
use Rattle.std.specs.Prelude.{◌≡◌, List, ℕ, ◌+◌, ◌*◌, ◌/◌, ◌%◌, ◌<◌, ◌≤◌, length}
use Rattle.std.specs.Int.Bits.{bit_xor}
use Rattle.strings.specs.Sums.{byte_at, bit_of, xor_sum, selected}
use Rattle.lanes.specs.Lanes.{lanes, lane_at}

abbrev pub entry_lane : List ℕ → ℕ → ℕ → ℕ
entry_lane T k e = xor_sum 4 (λ s. bit_of (k % 16) s * lane_at T (k / 16 * 4 + s) e)

abbrev pub LanesTabled : List ℕ → List ℕ → ℕ → Type 0
LanesTabled T sums count = (k e : ℕ) → k < count → e < lanes → lane_at sums k e ≡ entry_lane T k e

abbrev pub byte_looked_up : ℕ → ℕ → List ℕ → ℕ → ℕ
byte_looked_up b x sums e = bit_xor (lane_at sums (b * 32 + x % 16) e) (lane_at sums (b * 32 + 16 + x / 16) e)

abbrev pub row_looked_up : ℕ → List ℕ → List ℕ → ℕ → ℕ
row_looked_up count row sums e = xor_sum count (λ b. byte_looked_up b (byte_at row b) sums e)

abbrev pub RowSelected : List ℕ → List ℕ → List ℕ → Type 0
RowSelected row sums out =
    (table : List ℕ) (n e : ℕ) → LanesTabled table sums (length row * 32) → length table ≡ n * lanes → n ≤ length row * 8 → e < lanes
    → byte_at out e ≡ selected n row table lanes e
