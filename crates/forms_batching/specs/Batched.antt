-- The batched matrix, folded, and its products with vectors. In each definition d is the degree of the field (field's
-- Degrees).
--   cell_sum cells m χ e q f z == Σ_i χ(e, i)·b_i, where b_i is bit z of byte f of chunk i of the sixteen rows q of the
--     cells
--   batched_byte w size m A χ e ρ c == Σ_i χ(e, i)·F_i(ρ, c), where F_i is string i of A, of size bytes, in rows of w
--     bytes, folded
--   rows_sum d w size m A χ e W top rows c == Σ_ρ W(ρ)·Σ_i χ(e, i)·F_i(ρ, c), over the rows of so many sixteens, from
--     the sixteen `top` on
--   weighed_bit S χ m f z == Σ_i χ(i)·b_i, where b_i is bit z of byte f of row i of S
--   WeighedAll S χ m sums W G τ == Weighed for each of τ repetitions
--   VectorsFit τ vs == vs has τ vectors (forms_columns' Stacks);  VectorsAre n τ T vs == their first n coordinates are
--     those of the table T, and the others 0;  VectorsNarrow d τ vs == their coordinates are elements
--   SixteenTurned τ c T vs == the coordinates of the c-th sixteen are those of T;  BesideSixteen c old new == the
--     others are as they were
--   CellsRoom cells == as long as the longest piece of a set of panels
--   SumsRoom sums == as long as the longest table of sums
--   plane_times d v S χ m f z p == the share of bit p of the bytes χ in weighed_bit, times byte f of v: that bit stands
--     for α^p
--   row_times d vs e first S χ m h f z == weighed_bit at byte f of half h, times coordinate first + f of vector e of vs
--   CollectFits m τ G top rows stacks sums cells W vs == these have the lengths of so many sixteens of rows, from the
--     sixteen `top` on, of m matrices, and of τ repetitions
--   Collected d τ top rows m W cells vs old new == to the values of each stack the cells of these rows are added,
--     batched, each row times its coordinate
--   PartStacked d τ top rows m W cells vs stacks == the stacks have the columns of a panel of the batched matrix,
--     folded, times these coordinates of the vectors from the left, whichever panel the cells hold
-- Assumes nothing.
use Rattle.std.specs.Prelude.{◌≡◌, List, ℕ, ◌+◌, ◌*◌, ◌/◌, ◌^◌, ◌≤◌, ◌<◌, length}
use Rattle.std.specs.Int.Bits.{bit_xor}
use Rattle.protocol.specs.Lists.{block_at}
use Rattle.protocol.specs.Shape.{most_variables}
use Rattle.galois.specs.Degrees.{degree_of}
use Rattle.strings.specs.Sums.{byte_at, bit_of, xor_sum}
use Rattle.lanes.specs.Lanes.{lanes, lane_at}
use Rattle.chunks.specs.Chunks.{most_block, chunk, cell_at}
use Rattle.forms_choices.specs.Entries.{most_sums, up_to, Weighed, IsBytes, ChosenAll, GroupsFor, WordsFit}
use Rattle.forms_folds.specs.Folds.{cell_sixteens, folded_bit, Folded}
use Rattle.forms_batching.specs.Lines.{PartCells, VectorsEnd}
use Rattle.forms_columns.specs.Stacks.{alpha, byte_product, stack_of, column_of, coordinate_of, StacksFit}

unfoldable pub cell_sum : List ℕ → ℕ → (ℕ → ℕ → ℕ) → ℕ → ℕ → ℕ → ℕ → ℕ
cell_sum cells m χ e q f z = xor_sum m (λ i. bit_of (cell_at cells (q * m + i) f) z * χ e i)

unfoldable pub batched_byte : ℕ → ℕ → ℕ → List ℕ → (ℕ → ℕ → ℕ) → ℕ → ℕ → ℕ → ℕ
batched_byte w size m A χ e ρ c = xor_sum m (λ i. folded_bit w (block_at A size i) ρ c * χ e i)

abbrev pub rows_sum : ℕ → ℕ → ℕ → ℕ → List ℕ → (ℕ → ℕ → ℕ) → ℕ → (ℕ → ℕ) → ℕ → ℕ → ℕ → ℕ
rows_sum d w size m A χ e W top rows c = xor_sum (rows * 16) (λ ρ. byte_product d (W (top * 16 + ρ)) (batched_byte w size m A χ e (top * 16 + ρ) c))

abbrev pub weighed_bit : List ℕ → (ℕ → ℕ) → ℕ → ℕ → ℕ → ℕ
weighed_bit S χ m f z = xor_sum m (λ i. bit_of (cell_at S i f) z * χ i)

abbrev pub WeighedAll : List ℕ → (ℕ → ℕ → ℕ) → ℕ → List ℕ → List ℕ → ℕ → ℕ → Type 0
WeighedAll S χ m sums W G τ = (q : ℕ) → q < τ → Weighed S (χ q) m sums W G (q * 8)

abbrev pub VectorsFit : ℕ → List ℕ → Type 0
VectorsFit τ vs = τ * most_variables ≤ length vs

abbrev pub VectorsNarrow : ℕ → ℕ → List ℕ → Type 0
VectorsNarrow d τ vs = (e c : ℕ) → e < τ → c < most_variables → coordinate_of vs e c < 2 ^ degree_of d

abbrev pub VectorsAre : ℕ → ℕ → List ℕ → List ℕ → Type 0
VectorsAre n τ T vs = (e c : ℕ) → e < τ → c < most_variables → coordinate_of vs e c ≡ up_to n (λ k. lane_at T k e) c

abbrev pub SixteenTurned : ℕ → ℕ → List ℕ → List ℕ → Type 0
SixteenTurned τ c T vs = (e j : ℕ) → e < τ → j < 16 → coordinate_of vs e (c * 16 + j) ≡ lane_at T (c * 16 + j) e

abbrev pub BesideSixteen : ℕ → List ℕ → List ℕ → Type 0
BesideSixteen c old new = (e k : ℕ) → k < most_variables → (k / 16 ≡ c → ⊥) → coordinate_of new e k ≡ coordinate_of old e k

abbrev pub CellsRoom : List ℕ → Type 0
CellsRoom cells = cell_sixteens * (most_block * chunk) ≤ length cells

abbrev pub SumsRoom : List ℕ → Type 0
SumsRoom sums = length sums ≡ most_sums

abbrev pub plane_times : ℕ → List ℕ → List ℕ → (ℕ → ℕ) → ℕ → ℕ → ℕ → ℕ → ℕ
plane_times d v S χ m f z p = bit_of (xor_sum m (λ i. bit_of (χ i) p * cell_at S i f)) z * byte_product d (alpha d p) (byte_at v f)

abbrev pub row_times : ℕ → List ℕ → ℕ → ℕ → List ℕ → (ℕ → ℕ) → ℕ → ℕ → ℕ → ℕ → ℕ
row_times d vs e first S χ m h f z = byte_product d (coordinate_of vs e (first + f)) (weighed_bit S χ m (h * 16 + f) z)

abbrev pub CollectFits : ℕ → ℕ → ℕ → ℕ → ℕ → List ℕ → List ℕ → List ℕ → List ℕ → List ℕ → Type 0
CollectFits m τ G top rows stacks sums cells W vs =
    StacksFit τ stacks × SumsRoom sums × PartCells m rows cells × ((top + rows) * 16 ≤ most_variables) × (0 < m) × (m ≤ most_block) × (0 < τ) × (τ ≤ lanes)
    × GroupsFor m G × WordsFit τ W × VectorsFit τ vs

abbrev pub Collected : ℕ → ℕ → ℕ → ℕ → ℕ → List ℕ → List ℕ → List ℕ → List ℕ → List ℕ → Type 0
Collected d τ top rows m W cells vs old new =
    (χ : ℕ → ℕ → ℕ) (e h f z : ℕ) → IsBytes χ → ChosenAll χ m τ W → VectorsNarrow d τ vs → e < τ → h < 2 → f < 16
    → stack_of d new e (h * 16 + f) z
    ≡ bit_xor (stack_of d old e (h * 16 + f) z) (xor_sum rows (λ q. byte_product d (coordinate_of vs e ((top + q) * 16 + f)) (cell_sum cells m χ e q (h * 16 + f) z)))

abbrev pub PartStacked : ℕ → ℕ → ℕ → ℕ → ℕ → List ℕ → List ℕ → List ℕ → List ℕ → Type 0
PartStacked d τ top rows m W cells vs stacks =
    (A : List ℕ) (χ : ℕ → ℕ → ℕ) (n w J count e s : ℕ) → Folded n w m A top J count cells → rows ≤ count → rows ≤ J + 1
    → IsBytes χ → ChosenAll χ m τ W → VectorsEnd n τ vs → VectorsNarrow d τ vs → e < τ → s < 16 → (top + J) * 16 + s < n → column_of d stacks e s ≡ rows_sum d w (n * w) m A χ e (coordinate_of vs e) top rows ((top + J) * 16 + s)
