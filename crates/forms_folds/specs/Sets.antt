-- One matrix M, whose rows have w bytes, on its way into the cells of a piece (Folds) of four panels, that is of eight
-- byte columns from 2·first on.
--   Mirrored w M C count t k == in row k of t, of piece_rows bytes, bit z of byte r is entry (8C + z, r) of M, for the
--     rows r of the sixteens before that of column C, as far as the piece has them
--   Reflected w M C count t k == the same, and 0 in the column's own sixteen: what is added to the column's entries
--   Mirrors w M first end count t == the rows of t are the reflected columns of the panels first, .., end - 1, as far
--     as a row of M has bytes
--   Parted w M first q made == made has, for the sixteen rows q, the bytes of each of the eight byte columns, column
--     after column
--   summed made t q p e == byte e of the chunk of the sixteen rows q of the set's panel p: that of made, with that of t
--     added
--   chunk_place first count p q m i == the chunk of matrix i of m, for the sixteen rows q of panel first + p
--   Put first end count q m i k made t cells == the chunks of the sixteen rows q are so summed, for the first k panels
--     of the set that lie before `end` and reach down to q
--   Beside first count q m i k at == chunk `at` is none of these;  ChunksKept first count q m i k old new == the cells
--     beside them are as they were
--   OthersKept m i old new == the other matrices' cells are as they were
--   ChunkFolded w M J q cells at == chunk `at` of the cells holds the folded entries of the sixteen rows q of panel J
--     (Folds), as far as a row of M has bytes
--   SetFolded w M first end count m i k cells == so do the chunks of matrix i of m, for the panels before `end`, in the
--     first k sixteens of rows
--   TurnedFits turned == a byte for each row of a piece, for each of eight byte columns
--   CellsFit m cells == the cells have room for a piece of m matrices
--   RowsFit first end count q m i cells made turned == the panels and rows are a piece, q is one of its sixteens,
--     matrix i is one of m, and the buffers have room for them
--   ColumnFits k from w C count src turned == column C is the k-th of a piece, and src has its eight rows, from
--     `from` on
--   FoldFits w src from first end count m i cells turned == the same for a matrix: src has the rows, from `from` on up
--     to a whole sixteen, and bytes_past bytes more
--   trailing w top == the first byte of the trailing matrix from the sixteen `top` on
--   PieceOf n w top first end count == a piece of the trailing matrix, with all panels of n columns that the set has
--   RoomFits room == space for the longest matrix, and what is read past it
--   MatrixFits n w top first end count m i A cells turned room == the same, where A has m matrices of n rows of w bytes
--   MatrixFolded n w M top first count m i cells == the chunks of matrix i of m hold the folded entries of M, for the
--     panels and rows of the piece, at the rows and columns below n
-- Assumes nothing.
use Rattle.std.specs.Prelude.{◌≡◌, cond, List, ℕ, ◌+◌, ◌*◌, ◌/◌, ◌%◌, ◌≤◌, ◌<◌, ltb, length}
use Rattle.std.specs.Int.Bits.{bit_xor}
use Rattle.protocol.specs.Strings.{bytes_for}
use Rattle.strings.specs.Sums.{byte_at, bit_of}
use Rattle.chunks.specs.Chunks.{chunk, cell_at, most_block}
use Rattle.forms_folds.specs.Folds.{entry, folded_bit, before, piece_sixteens, piece_rows, cell_sixteens, most_panels, most_sides, most_matrix, bytes_past, PieceFits}

abbrev pub Mirrored : ℕ → List ℕ → ℕ → ℕ → List ℕ → ℕ → Type 0
Mirrored w M C count t k = (r z : ℕ) → r < C / 2 * 16 → r < count * 16 → z < 8 → bit_of (byte_at t (k * piece_rows + r)) z ≡ entry w M (C * 8 + z) r

abbrev pub Reflected : ℕ → List ℕ → ℕ → ℕ → List ℕ → ℕ → Type 0
Reflected w M C count t k =
    (r z : ℕ) → r < C / 2 * 16 + 16 → r < count * 16 → z < 8 → bit_of (byte_at t (k * piece_rows + r)) z ≡ cond (ltb (r / 16) (C / 2)) (entry w M (C * 8 + z) r) 0

abbrev pub Mirrors : ℕ → List ℕ → ℕ → ℕ → ℕ → List ℕ → Type 0
Mirrors w M first end count t = (k : ℕ) → 2 * first + k < 2 * end → 2 * first + k < w → Reflected w M (2 * first + k) count t k

abbrev pub Parted : ℕ → List ℕ → ℕ → ℕ → List ℕ → Type 0
Parted w M first q made = (k f : ℕ) → k < 8 → f < 16 → byte_at made (k * 16 + f) ≡ byte_at M ((q * 16 + f) * w + (2 * first + k))

abbrev pub summed : List ℕ → List ℕ → ℕ → ℕ → ℕ → ℕ
summed made t q p e = bit_xor (byte_at made (p * chunk + e)) (byte_at t ((2 * p + e / 16) * piece_rows + (q * 16 + e % 16)))

abbrev pub chunk_place : ℕ → ℕ → ℕ → ℕ → ℕ → ℕ → ℕ
chunk_place first count p q m i = (before first count p + q) * m + i

abbrev pub Put : ℕ → ℕ → ℕ → ℕ → ℕ → ℕ → ℕ → List ℕ → List ℕ → List ℕ → Type 0
Put first end count q m i k made t cells =
    (p e : ℕ) → p < k → q ≤ first + p → first + p < end → e < chunk → cell_at cells (chunk_place first count p q m i) e ≡ summed made t q p e

abbrev pub Beside : ℕ → ℕ → ℕ → ℕ → ℕ → ℕ → ℕ → Type 0
Beside first count q m i k at = (p : ℕ) → p < k → q ≤ first + p → at ≡ chunk_place first count p q m i → ⊥

abbrev pub ChunksKept : ℕ → ℕ → ℕ → ℕ → ℕ → ℕ → List ℕ → List ℕ → Type 0
ChunksKept first count q m i k old new = (at e : ℕ) → Beside first count q m i k at → e < chunk → cell_at new at e ≡ cell_at old at e

abbrev pub OthersKept : ℕ → ℕ → List ℕ → List ℕ → Type 0
OthersKept m i old new = (q x e : ℕ) → x < m → (x ≡ i → ⊥) → e < chunk → cell_at new (q * m + x) e ≡ cell_at old (q * m + x) e

abbrev pub ChunkFolded : ℕ → List ℕ → ℕ → ℕ → List ℕ → ℕ → Type 0
ChunkFolded w M J q cells at =
    (h f z : ℕ) → h < 2 → 2 * J + h < w → f < 16 → z < 8 → bit_of (cell_at cells at (h * 16 + f)) z ≡ folded_bit w M (q * 16 + f) (J * 16 + (h * 8 + z))

abbrev pub SetFolded : ℕ → List ℕ → ℕ → ℕ → ℕ → ℕ → ℕ → ℕ → List ℕ → Type 0
SetFolded w M first end count m i k cells =
    (q p : ℕ) → q < k → p < 4 → q ≤ first + p → first + p < end → ChunkFolded w M (first + p) q cells (chunk_place first count p q m i)

abbrev pub TurnedFits : List ℕ → Type 0
TurnedFits turned = length turned ≡ 8 * piece_rows

abbrev pub CellsFit : ℕ → List ℕ → Type 0
CellsFit m cells = cell_sixteens * (m * chunk) ≤ length cells

abbrev pub RowsFit : ℕ → ℕ → ℕ → ℕ → ℕ → ℕ → List ℕ → List ℕ → List ℕ → Type 0
RowsFit first end count q m i cells made turned =
    PieceFits first end count × (q < count) × (i < m) × (m ≤ most_block) × CellsFit m cells × (length made ≡ 128) × TurnedFits turned

abbrev pub ColumnFits : ℕ → ℕ → ℕ → ℕ → ℕ → List ℕ → List ℕ → Type 0
ColumnFits k from w C count src turned =
    (k < 8) × (C < 2 * most_panels) × (count ≤ piece_sixteens) × (8 < count → C < 2 * piece_sixteens) × TurnedFits turned × (from + (C * 8 + 8) * w + 18 ≤ length src)

abbrev pub FoldFits : ℕ → List ℕ → ℕ → ℕ → ℕ → ℕ → ℕ → ℕ → List ℕ → List ℕ → Type 0
FoldFits w src from first end count m i cells turned =
    PieceFits first end count × (i < m) × (m ≤ most_block) × CellsFit m cells × TurnedFits turned × (from + end * 16 * w + bytes_past ≤ length src)

abbrev pub trailing : ℕ → ℕ → ℕ
trailing w top = top * (16 * w + 2)

abbrev pub PieceOf : ℕ → ℕ → ℕ → ℕ → ℕ → ℕ → Type 0
PieceOf n w top first end count =
    (w ≡ bytes_for n) × (n ≤ most_sides) × (top * 16 < n) × (top + end ≤ most_panels) × PieceFits first end count × ((p : ℕ) → p < 4 → (top + (first + p)) * 16 < n → first + p < end)

abbrev pub RoomFits : List ℕ → Type 0
RoomFits room = most_matrix + bytes_past ≤ length room

abbrev pub MatrixFits : ℕ → ℕ → ℕ → ℕ → ℕ → ℕ → ℕ → ℕ → List ℕ → List ℕ → List ℕ → List ℕ → Type 0
MatrixFits n w top first end count m i A cells turned room =
    PieceOf n w top first end count × (i < m) × (m ≤ most_block) × (length A ≡ m * (n * w)) × CellsFit m cells × TurnedFits turned × RoomFits room

abbrev pub MatrixFolded : ℕ → ℕ → List ℕ → ℕ → ℕ → ℕ → ℕ → ℕ → List ℕ → Type 0
MatrixFolded n w M top first count m i cells =
    (p q h f z : ℕ) → p < 4 → q < count → q ≤ first + p → h < 2 → f < 16 → z < 8 → (top + q) * 16 + f < n → (top + (first + p)) * 16 + (h * 8 + z) < n
    → bit_of (cell_at cells (chunk_place first count p q m i) (h * 16 + f)) z ≡ folded_bit w M ((top + q) * 16 + f) ((top + (first + p)) * 16 + (h * 8 + z))
