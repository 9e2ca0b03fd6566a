-- Sums of leaves on bytes, and the table that holds v of every repetition, coordinate by coordinate.
--   eight_rows == the coordinates of sixteen bytes, which are turned together
--   planes_byte planes w c == the byte whose bit p is coordinate c of plane p, planes being eight rows of w bytes, one
--     for each bit of a byte
--   NoPlanesFrom r w planes == the planes from r on are 0
--   u_byte tree count w b == byte b of u, the sum of the count leaves of a tree, of w bytes each
--   v_byte tree count w c == coordinate c of v = Σ j·(leaf j), as a byte
--   TreeReady table planes tree w e r == these have the lengths of one tree of 2^r leaves, and e is a lane
--   RowReady table planes sums leaves w e r == tree e stands whole in the leaves, and row e in the sums
--   TreesReady table sums leaves τ w r == these have the lengths of τ trees of 2^r leaves
--   SumsAre, TableIs sums leaves τ w count == a string has the rows u_e, and a table the lanes v_e, for each repetition
--     e below τ; a tree has count leaves
--   CorrectionsAre out sums n w == out has n rows of w bytes, row e the sum of rows e + 1 and 0 of the sums
-- Assumes nothing.
use Rattle.std.specs.Prelude.{◌≡◌, List, ℕ, ◌+◌, ◌*◌, ◌^◌, ◌<◌, ◌≤◌, length}
use Rattle.std.specs.Int.Bits.{bit_xor}
use Rattle.protocol.specs.Lists.{block_at}
use Rattle.protocol.specs.Strings.{bit, from_bits}
use Rattle.strings.specs.Sums.{byte_at, xor_sum}
use Rattle.format.specs.Limits.{most_leaf}
use Rattle.lanes.specs.Lanes.{lanes}

abbrev pub eight_rows : ℕ
eight_rows = 8 * 16

abbrev pub planes_byte : List ℕ → ℕ → ℕ → ℕ
planes_byte planes w c = from_bits 8 (λ p. bit (block_at planes w p) c)

abbrev pub NoPlanesFrom : ℕ → ℕ → List ℕ → Type 0
NoPlanesFrom r w planes = (p b : ℕ) → r ≤ p → p < 8 → b < w → byte_at planes (p * w + b) ≡ 0

abbrev pub u_byte : List ℕ → ℕ → ℕ → ℕ → ℕ
u_byte tree count w b = xor_sum count (λ j. byte_at tree (j * w + b))

abbrev pub v_byte : List ℕ → ℕ → ℕ → ℕ → ℕ
v_byte tree count w c = xor_sum count (λ j. j * bit (block_at tree w j) c)

abbrev pub TreeReady : List ℕ → List ℕ → List ℕ → ℕ → ℕ → ℕ → Type 0
TreeReady table planes tree w e r = (length table ≡ 8 * w * lanes) × (length planes ≡ 8 * w) × (e < lanes) × (r ≤ 8) × (length tree ≡ 2 ^ r * w)

abbrev pub RowReady : List ℕ → List ℕ → List ℕ → List ℕ → ℕ → ℕ → ℕ → Type 0
RowReady table planes sums leaves w e r =
    (length table ≡ 8 * w * lanes) × (length planes ≡ 8 * w) × (e < lanes) × (r ≤ 8) × (e * w + w ≤ length sums) × (e * (2 ^ r * w) + 2 ^ r * w ≤ length leaves)

abbrev pub TreesReady : List ℕ → List ℕ → List ℕ → ℕ → ℕ → ℕ → Type 0
TreesReady table sums leaves τ w r =
    (length table ≡ 8 * w * lanes) × (length sums ≡ τ * w) × (length leaves ≡ τ * 2 ^ r * w) × (τ ≤ lanes) × (w ≤ most_leaf) × (r ≤ 8)

abbrev pub SumsAre : List ℕ → List ℕ → ℕ → ℕ → ℕ → Type 0
SumsAre sums leaves τ w count = (e b : ℕ) → e < τ → b < w → byte_at sums (e * w + b) ≡ u_byte (block_at leaves (count * w) e) count w b

abbrev pub TableIs : List ℕ → List ℕ → ℕ → ℕ → ℕ → Type 0
TableIs table leaves τ w count = (e c : ℕ) → e < τ → c < 8 * w → byte_at table (c * lanes + e) ≡ v_byte (block_at leaves (count * w) e) count w c

abbrev pub CorrectionsAre : List ℕ → List ℕ → ℕ → ℕ → Type 0
CorrectionsAre out sums n w = (e b : ℕ) → e < n → b < w → byte_at out (e * w + b) ≡ bit_xor (byte_at sums ((e + 1) * w + b)) (byte_at sums b)
