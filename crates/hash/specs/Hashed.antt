-- The hash of vectors side by side, on bytes, as a whole and by the first bytes of each row of H'.
--   block == the bytes of a row of H' that one table of sums serves
--   front_lane H' width k T n ρ e == what the first n bytes of row ρ of H' select of the vector of repetition e, and
--     coordinate k + ρ
--   hash_lane H' width k T ρ e == row ρ of H·(vector of repetition e), H = [H' | identity]: what row ρ of H' selects,
--     and coordinate k + ρ
--   Hashed H' width k t τ T out == out has a row of t bytes for each repetition e below τ, and its byte ρ is row ρ of
--     H·(vector of repetition e)
--   BlockTabled from len T sums == sums has the sums of the coordinates of T that the `len` bytes from `from` on select
--     from
--   Column H' T b n r out == byte r of each row of out is so by the first n bytes of the rows of H';  Columns == each
--     byte is
--   BlockFits H' T b out sums == these are as long as the rows of H', and the block b of their bytes, need
-- Assumes nothing.
use Rattle.std.specs.Prelude.{◌≡◌, List, ℕ, ◌+◌, ◌*◌, ◌<◌, ◌≤◌, length}
use Rattle.std.specs.Int.Bits.{bit_xor}
use Rattle.protocol.specs.Lists.{part, block_at}
use Rattle.strings.specs.Sums.{byte_at, selected}
use Rattle.lanes.specs.Lanes.{lanes, lane_at}
use Rattle.hash.specs.Entries.{LanesTabled}
use Rattle.hash.specs.declared.vectors.Block.{Block}

abbrev pub block : ℕ
block = 21

abbrev pub front_lane : List ℕ → ℕ → ℕ → List ℕ → ℕ → ℕ → ℕ → ℕ
front_lane H' width k T n ρ e = bit_xor (selected (n * 8) (block_at H' width ρ) T lanes e) (lane_at T (k + ρ) e)

abbrev pub hash_lane : List ℕ → ℕ → ℕ → List ℕ → ℕ → ℕ → ℕ
hash_lane H' width k T ρ e = bit_xor (selected (width * 8) (block_at H' width ρ) T lanes e) (lane_at T (k + ρ) e)

abbrev pub Hashed : List ℕ → ℕ → ℕ → ℕ → ℕ → List ℕ → List ℕ → Type 0
Hashed H' width k t τ T out = (e r : ℕ) → e < τ → r < t → byte_at out (e * t + r) ≡ hash_lane H' width k T r e

abbrev pub BlockTabled : ℕ → ℕ → List ℕ → List ℕ → Type 0
BlockTabled from len T sums = LanesTabled (part T (from * 8 * lanes) (len * 8 * lanes)) sums (len * 32)

module _ (H' T : List ℕ) (b : Block) where
  abbrev pub Column : ℕ → ℕ → List ℕ → Type 0
  Column n r out = (e : ℕ) → e < b.tau → byte_at out (e * b.t + r) ≡ front_lane H' b.width b.k T n r e

  abbrev pub Columns : ℕ → List ℕ → Type 0
  Columns n out = (r : ℕ) → r < b.t → Column n r out

  abbrev pub BlockFits : List ℕ → List ℕ → Type 0
  BlockFits out sums =
      (length out ≡ b.tau * b.t) × (length H' ≡ b.t * b.width) × (b.tau ≤ lanes) × (b.len * 32 * lanes ≤ length sums) × ((b.k + b.t) * lanes ≤ length T)
      × (b.width * 8 * lanes ≤ length T) × (b.from + b.len ≤ b.width)
