-- The order in which the pieces of the matrices (forms_folds) are taken: set after set of four panels; in a set, piece
-- after piece from the top; in a piece, panel after panel.
--   panels_of n == the panels of n columns;  end_of n first == the end of the set of the panels from `first` on
--   rows_of first end == the sixteens of rows of the first piece of a trailing matrix whose set is first, .., end - 1:
--     all of them where first ≤ 4, and where first is 8 and there are at most piece_sixteens; otherwise short_piece
--   short_piece == so many sixteens of rows do the cells hold of each of four panels that lie below them
--   piece_end n first top == the end of the piece from the sixteen `top` on
--   PieceAt n first top piece == `piece` is the piece of this set from the sixteen `top` on
--   Walk first top == a set may begin at `first`, and a piece of it at `top`
--   NextPlace first p piece r == r is the place of the panel that comes after panel p of the piece
--   Walked n first top p R == R J is how many sixteens of rows of panel J are done, when p panels of the piece are
-- Assumes nothing.
use Rattle.std.specs.Prelude.{◌≡◌, cond, ℕ, ◌+◌, ◌-◌, ◌/◌, ◌%◌, ◌≤◌, ◌<◌, ltb, leb, eqb}
use Rattle.forms_folds.specs.Folds.{piece_sixteens}
use Rattle.forms_folds.specs.declared.Piece.{Piece}
use Rattle.forms_pieces.specs.declared.Place.{Place}

abbrev pub panels_of : ℕ → ℕ
panels_of n = (n + 15) / 16

unfoldable pub end_of : ℕ → ℕ → ℕ
end_of n first = cond (ltb (first + 4) (panels_of n)) (first + 4) (panels_of n)

abbrev pub short_piece : ℕ
short_piece = 6

unfoldable pub rows_of : ℕ → ℕ → ℕ
rows_of first end = cond (leb first 4) end (cond (eqb first 8) (cond (leb end piece_sixteens) end short_piece) short_piece)

abbrev pub piece_end : ℕ → ℕ → ℕ → ℕ
piece_end n first top = top + rows_of (first - top) (end_of n first - top)

abbrev pub PieceAt : ℕ → ℕ → ℕ → Piece → Type 0
PieceAt n first top piece =
    (piece.top ≡ top) × (piece.first ≡ first - top) × (piece.end ≡ end_of n first - top) × (piece.count ≡ rows_of (first - top) (end_of n first - top))

abbrev pub NextPlace : ℕ → ℕ → Piece → Place → Type 0
NextPlace first p piece r =
    (first + p + 1 < piece.top + piece.end → (r.first ≡ first) × (r.top ≡ piece.top) × (r.p ≡ p + 1))
    × (piece.top + piece.end ≤ first + p + 1 → piece.count < piece.end → (r.first ≡ first) × (r.top ≡ piece.top + piece.count) × (r.p ≡ 0))
    × (piece.top + piece.end ≤ first + p + 1 → piece.end ≤ piece.count → (r.first ≡ first + 4) × (r.top ≡ 0) × (r.p ≡ 0))

abbrev pub Walk : ℕ → ℕ → Type 0
Walk first top = (first % 4 ≡ 0) × (top % 2 ≡ 0) × (top ≤ first)

abbrev pub Walked : ℕ → ℕ → ℕ → ℕ → (ℕ → ℕ) → Type 0
Walked n first top p R =
    (J : ℕ) → J < panels_of n → (J < first → R J ≡ J + 1) × (first ≤ J → J < first + p → J < piece_end n first top → R J ≡ J + 1)
    × (first ≤ J → J < first + p → piece_end n first top ≤ J → R J ≡ piece_end n first top) × (first + p ≤ J → J < first + 4 → R J ≡ top) × (first + 4 ≤ J → R J ≡ 0)
