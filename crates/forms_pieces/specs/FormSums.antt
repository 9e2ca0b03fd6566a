-- The forms of the batched matrix, and what is added to the lines: half of the polar form. In each definition d is the
-- degree of the field (field's Degrees).
--   left_part w size A x i top rows c == Σ_ρ x(ρ)·F_i(ρ, c) over the rows ρ of so many sixteens from the sixteen top on,
--     where F_i is string i of A, of size bytes, in rows of w bytes, folded
--   left_of w size A x i c == the same over all rows up to the sixteen of c
--   left_sum d w size m A χ e W J c == Σ_ρ W(ρ)·Σ_i χ(e, i)·F_i(ρ, c) over the rows up to the J-th sixteen
--   form_sum d n w m A χ e y W == Σ_i χ(e, i)·Σ_ρ W(ρ)·Σ_c A_i(ρ, c)·y(c), where A_i is matrix i of A, of n rows of w
--     bytes
--   polar_sum d n w m A χ e x y == form_sum at x and y, and at y and x
--   BatchFits d n w m τ G polar quad mid lines cells A W vs xs == these have the lengths of a key's parts and of τ
--     repetitions; the entries of xs are bits, 0 from n on, and 0 where the polar form is not asked for; the
--     coordinates of the vectors are elements, 0 from n on
-- Assumes nothing.
use Rattle.std.specs.Prelude.{◌≡◌, Bool, false, List, ℕ, ◌+◌, ◌*◌, ◌/◌, ◌≤◌, ◌<◌, length}
use Rattle.std.specs.Int.Bits.{bit_xor}
use Rattle.protocol.specs.Lists.{block_at}
use Rattle.protocol.specs.Strings.{bytes_for}
use Rattle.protocol.specs.Shape.{most_variables}
use Rattle.strings.specs.Sums.{byte_at, xor_sum}
use Rattle.lanes.specs.Lanes.{lanes}
use Rattle.chunks.specs.Chunks.{most_block}
use Rattle.forms_choices.specs.Entries.{GroupsFor, WordsFit}
use Rattle.forms_folds.specs.Folds.{entry, folded_bit}
use Rattle.forms_columns.specs.Stacks.{byte_product, VectorsRoom, IsBits}
use Rattle.forms_batching.specs.Batched.{batched_byte, VectorsNarrow, CellsRoom}
use Rattle.forms_batching.specs.Lines.{LinesFit, VectorsEnd}

unfoldable pub left_part : ℕ → ℕ → List ℕ → (ℕ → ℕ) → ℕ → ℕ → ℕ → ℕ → ℕ
left_part w size A x i top rows c = xor_sum (rows * 16) (λ ρ. x (top * 16 + ρ) * folded_bit w (block_at A size i) (top * 16 + ρ) c)

unfoldable pub left_of : ℕ → ℕ → List ℕ → (ℕ → ℕ) → ℕ → ℕ → ℕ
left_of w size A x i c = xor_sum ((c / 16 + 1) * 16) (λ ρ. x ρ * folded_bit w (block_at A size i) ρ c)

abbrev pub left_sum : ℕ → ℕ → ℕ → ℕ → List ℕ → (ℕ → ℕ → ℕ) → ℕ → (ℕ → ℕ) → ℕ → ℕ → ℕ
left_sum d w size m A χ e W J c = xor_sum ((J + 1) * 16) (λ ρ. byte_product d (W ρ) (batched_byte w size m A χ e ρ c))

unfoldable pub form_sum : ℕ → ℕ → ℕ → ℕ → List ℕ → (ℕ → ℕ → ℕ) → ℕ → (ℕ → ℕ) → (ℕ → ℕ) → ℕ
form_sum d n w m A χ e y W =
    xor_sum m (λ i. byte_product d (χ e i) (xor_sum n (λ ρ. byte_product d (W ρ) (xor_sum n (λ c. entry w (block_at A (n * w) i) ρ c * y c)))))

abbrev pub polar_sum : ℕ → ℕ → ℕ → ℕ → List ℕ → (ℕ → ℕ → ℕ) → ℕ → (ℕ → ℕ) → (ℕ → ℕ) → ℕ
polar_sum d n w m A χ e x y = bit_xor (form_sum d n w m A χ e y x) (form_sum d n w m A χ e x y)

abbrev pub BatchFits : ℕ → ℕ → ℕ → ℕ → ℕ → ℕ → Bool → List ℕ → List ℕ → List ℕ → List ℕ → List ℕ → List ℕ → List ℕ → List ℕ → Type 0
BatchFits d n w m τ G polar quad mid lines cells A W vs xs =
    (length quad ≡ lanes) × (length mid ≡ lanes) × (length A ≡ m * (n * w)) × (w ≡ bytes_for n) × (n ≤ most_variables) × (0 < m) × (m ≤ most_block) × (0 < τ) × (τ ≤ lanes)
    × GroupsFor m G × WordsFit τ W × VectorsRoom vs × (length xs ≡ most_variables) × IsBits xs × ((c : ℕ) → n ≤ c → byte_at xs c ≡ 0)
    × (polar ≡ false → (c : ℕ) → byte_at xs c ≡ 0) × LinesFit m lines × CellsRoom cells × VectorsEnd n τ vs × VectorsNarrow d τ vs
