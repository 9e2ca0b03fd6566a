-- Matrices over GF(2), folded: a quadratic form xᵀAx is the same when entry (c, ρ) is moved onto (ρ, c). Rows and
-- columns are taken by sixteens. A set is four panels, the columns of four sixteens. Its rows are taken in pieces: a
-- piece from the sixteen `top` on is one of the trailing matrix, the matrix without its first 16·top rows and columns.
--   entry w M ρ c == entry (ρ, c) of the matrix M, whose rows have w bytes: bit c mod 8 of byte ⌊c/8⌋ of row ρ
--   folded_bit w M ρ c == entry (ρ, c), with entry (c, ρ) added where row ρ is in an earlier sixteen than column c
--   Folded n w m a top J count cells == cells holds the folded entries of panel J of the trailing matrix, of the m
--     matrices of a, of n rows each:
--     for each of its first `count` sixteens of rows q, up to the J-th, and for each matrix i, a chunk, which has
--       sixteen rows of bytes of the panel's first eight columns (h = 0),
--     then those of its last eight (h = 1). What stands at rows and columns from n on is not said.
--   height first count p == so many sixteens of rows has panel first + p of a piece of `count` of them: those up to
--     its own where the piece reaches the first panel's own sixteen, all of the piece where it ends before
--   before first count p == so many do the panels first, .., first + p - 1 have
--   FoldedSet n w m a top first count cells == Folded for each of four panels, from `first` on, one after the other
--   piece_sixteens, piece_rows == the most sixteens of rows of a piece, and the most rows
--   cell_sixteens == the sixteens of rows that the cells hold, of all panels of a piece
--   most_panels == the most panels of a matrix;  most_sides == the most rows or columns;  most_matrix == the most bytes
--   bytes_past == so many bytes are read past the rows of a matrix
--   PieceFits first end count == the panels first, .., end - 1 of a set, with `count` sixteens of rows, are a piece
--     that the cells hold. Where it has rows from 128 on, its columns are such that the entries mirrored onto these
--     rows stand in the first 18 bytes of a row.
-- Assumes nothing.
use Rattle.std.specs.Prelude.{◌≡◌, cond, List, ℕ, zero, suc, ◌+◌, ◌*◌, ◌/◌, ◌%◌, ◌≤◌, ◌<◌, ltb}
use Rattle.std.specs.Int.Bits.{bit_xor}
use Rattle.protocol.specs.Lists.{block_at}
use Rattle.strings.specs.Sums.{byte_at, bit_of}
use Rattle.chunks.specs.Chunks.{chunk}

abbrev pub entry : ℕ → List ℕ → ℕ → ℕ → ℕ
entry w M ρ c = bit_of (byte_at M (ρ * w + c / 8)) (c % 8)

unfoldable pub folded_bit : ℕ → List ℕ → ℕ → ℕ → ℕ
folded_bit w M ρ c = bit_xor (entry w M ρ c) (cond (ltb (ρ / 16) (c / 16)) (entry w M c ρ) 0)

abbrev pub Folded : ℕ → ℕ → ℕ → List ℕ → ℕ → ℕ → ℕ → List ℕ → Type 0
Folded n w m a top J count cells =
    (q i h f z : ℕ) → q < count → q ≤ J → i < m → h < 2 → f < 16 → z < 8 → (top + q) * 16 + f < n → (top + J) * 16 + (h * 8 + z) < n
    → bit_of (byte_at cells ((q * m + i) * chunk + (h * 16 + f))) z ≡ folded_bit w (block_at a (n * w) i) ((top + q) * 16 + f) ((top + J) * 16 + (h * 8 + z))

unfoldable pub height : ℕ → ℕ → ℕ → ℕ
height first count p = cond (ltb first count) (first + p + 1) count

unfoldable pub before : ℕ → ℕ → ℕ → ℕ
before first count zero = 0
before first count (suc p) = before first count p + height first count p

abbrev pub FoldedSet : ℕ → ℕ → ℕ → List ℕ → ℕ → ℕ → ℕ → List ℕ → Type 0
FoldedSet n w m a top first count cells =
    (p q i h f z : ℕ) → p < 4 → q < count → q ≤ first + p → i < m → h < 2 → f < 16 → z < 8 → (top + q) * 16 + f < n → (top + (first + p)) * 16 + (h * 8 + z) < n
    → bit_of (byte_at cells (((before first count p + q) * m + i) * chunk + (h * 16 + f))) z
    ≡ folded_bit w (block_at a (n * w) i) ((top + q) * 16 + f) ((top + (first + p)) * 16 + (h * 8 + z))

abbrev pub piece_sixteens : ℕ
piece_sixteens = 10

abbrev pub piece_rows : ℕ
piece_rows = piece_sixteens * 16

abbrev pub cell_sixteens : ℕ
cell_sixteens = 26

abbrev pub most_panels : ℕ
most_panels = 20

abbrev pub most_sides : ℕ
most_sides = most_panels * 16

abbrev pub most_matrix : ℕ
most_matrix = most_sides * (2 * most_panels)

abbrev pub bytes_past : ℕ
bytes_past = 48

abbrev pub PieceFits : ℕ → ℕ → ℕ → Type 0
PieceFits first end count =
    (first < end) × (end ≤ first + 4) × (end ≤ most_panels) × (count ≤ piece_sixteens) × (count ≤ end) × (8 < count → end ≤ piece_sixteens)
    × ((p : ℕ) → first + p < end → before first count p + height first count p ≤ cell_sixteens)
