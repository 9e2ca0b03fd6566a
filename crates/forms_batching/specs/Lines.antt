-- The lines of the equations, and their batch. A line is the coefficients of a linear form, a bit for each coordinate.
-- The lines of m equations stand in tables of chunks, one chunk for each line: table g has the coordinates from g times
-- chunk_bits on.
--   chunk_bits == the coordinates of a chunk, a bit each
--   lines_tables == so many tables do the lines of as many variables have as a key may have
--   LinesFit m L == L has room for these tables of m lines
--   line_byte L m i k == byte k of line i of m: it stands in chunk i of table ⌊k/chunk⌋
--   line_bit L m i c == coefficient c of line i: bit c mod 8 of its byte ⌊c/8⌋
--   PartCells m rows cells == the cells have so many sixteens of rows, of m matrices
--   MasksOf x bits == the bytes of bits are the masks of the bits x
--   left_byte cells m bits i top rows k == byte k of the sum of chunk i of each of so many sixteens of rows, each row
--     under its mask, a byte of bits: the first row's is byte 16·top
--   left_bit cells m x i top rows h z == Σ_ρ x(16·top + ρ)·b_ρ over these rows ρ, b_ρ bit z of row ρ of byte column h of
--     chunk i of its sixteen
--   line_sum L m χ e c == Σ_i χ(e, i)·line_bit L m i c
--   LeftAdded m J top rows bits cells old new == where the bits are masks of x, left_bit is added to each line at the
--     columns of panel J
--   LinesBeside m J old new == the lines are as they were at the other columns
--   weighed_line S χ m c == Σ_i χ(i)·(bit c of chunk i of the table S)
--   dot_of C f t count == the sum of the products of so many coordinates of f and of t, in the field C
--   line_product d vs e from count f == Σ_c f(c)·(coordinate from + c of vector e of vs), over so many coordinates, in
--     the field of degree d
--   VectorsEnd n τ vs == the vectors of τ repetitions have no coordinates from n on
--   line_form d n L m χ e y == Σ_c y(c)·line_sum L m χ e c, over n coordinates, in that field
-- Assumes nothing.
use Rattle.std.specs.Prelude.{◌≡◌, List, ℕ, ◌+◌, ◌*◌, ◌-◌, ◌/◌, ◌%◌, ◌≤◌, ◌<◌, length}
use Rattle.std.specs.Int.Bits.{bit_and, bit_xor}
use Rattle.algebra.specs.Coded.{Coded, mul_byte}
use Rattle.protocol.specs.Shape.{most_variables}
use Rattle.strings.specs.Sums.{byte_at, bit_of, xor_sum, mask_byte}
use Rattle.chunks.specs.Chunks.{chunk, cell_at}
use Rattle.forms_columns.specs.Stacks.{byte_product, coordinate_of}

abbrev pub chunk_bits : ℕ
chunk_bits = 8 * chunk

abbrev pub lines_tables : ℕ
lines_tables = (most_variables + (chunk_bits - 1)) / chunk_bits

abbrev pub LinesFit : ℕ → List ℕ → Type 0
LinesFit m L = lines_tables * (m * chunk) ≤ length L

abbrev pub line_byte : List ℕ → ℕ → ℕ → ℕ → ℕ
line_byte L m i k = cell_at L (k / chunk * m + i) (k % chunk)

abbrev pub line_bit : List ℕ → ℕ → ℕ → ℕ → ℕ
line_bit L m i c = bit_of (line_byte L m i (c / 8)) (c % 8)

abbrev pub PartCells : ℕ → ℕ → List ℕ → Type 0
PartCells m rows cells = rows * (m * chunk) ≤ length cells

abbrev pub MasksOf : (ℕ → ℕ) → List ℕ → Type 0
MasksOf x bits = (c : ℕ) → c < most_variables → byte_at bits c ≡ x c * mask_byte

abbrev pub left_byte : List ℕ → ℕ → List ℕ → ℕ → ℕ → ℕ → ℕ → ℕ
left_byte cells m bits i top rows k = xor_sum rows (λ q. bit_and (cell_at cells (q * m + i) k) (byte_at bits ((top + q) * 16 + k % 16)))

unfoldable pub left_bit : List ℕ → ℕ → (ℕ → ℕ) → ℕ → ℕ → ℕ → ℕ → ℕ → ℕ
left_bit cells m x i top rows h z = xor_sum (rows * 16) (λ ρ. x (top * 16 + ρ) * bit_of (cell_at cells (ρ / 16 * m + i) (h * 16 + ρ % 16)) z)

unfoldable pub line_sum : List ℕ → ℕ → (ℕ → ℕ → ℕ) → ℕ → ℕ → ℕ
line_sum L m χ e c = xor_sum m (λ i. line_bit L m i c * χ e i)

abbrev pub LeftAdded : ℕ → ℕ → ℕ → ℕ → List ℕ → List ℕ → List ℕ → List ℕ → Type 0
LeftAdded m J top rows bits cells old new =
    (x : ℕ → ℕ) (i h z : ℕ) → ((c : ℕ) → x c < 2) → MasksOf x bits → i < m → h < 2 → z < 8
    → bit_of (line_byte new m i (J * 2 + h)) z ≡ bit_xor (bit_of (line_byte old m i (J * 2 + h)) z) (left_bit cells m x i top rows h z)

abbrev pub LinesBeside : ℕ → ℕ → List ℕ → List ℕ → Type 0
LinesBeside m J old new = (i k : ℕ) → i < m → (k / 2 ≡ J → ⊥) → line_byte new m i k ≡ line_byte old m i k

abbrev pub weighed_line : List ℕ → (ℕ → ℕ) → ℕ → ℕ → ℕ
weighed_line S χ m c = xor_sum m (λ i. bit_of (cell_at S i (c / 8)) (c % 8) * χ i)

abbrev pub dot_of : Coded → List ℕ → List ℕ → ℕ → ℕ
dot_of C f t count = xor_sum count (λ c. mul_byte C (byte_at f c) (byte_at t c))

abbrev pub line_product : ℕ → List ℕ → ℕ → ℕ → ℕ → (ℕ → ℕ) → ℕ
line_product d vs e from count f = xor_sum count (λ c. byte_product d (byte_at vs (e * most_variables + (from + c))) (f c))

abbrev pub VectorsEnd : ℕ → ℕ → List ℕ → Type 0
VectorsEnd n τ vs = (e c : ℕ) → e < τ → n ≤ c → c < most_variables → coordinate_of vs e c ≡ 0

abbrev pub line_form : ℕ → ℕ → List ℕ → ℕ → (ℕ → ℕ → ℕ) → ℕ → (ℕ → ℕ) → ℕ
line_form d n L m χ e y = xor_sum n (λ c. byte_product d (y c) (line_sum L m χ e c))
