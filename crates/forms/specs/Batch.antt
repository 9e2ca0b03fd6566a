-- The sums that the batching bytes make of the coefficients of all equations, on bytes, in the field of degree d
-- (field's Degrees).
--   LinesAre m w b L == the m lines of L are the rows of b, of w bytes each
--   batch_of d m χ e f == Σ_i χ(e, i)·f(i);  batch_byte d m χ e f == the same where a list χ has m bytes for each
--     repetition
--   forms_byte d n m A χ e f, middles_byte d n m A b x χ e f == what they make of the forms of the equations at the
--     vector f, and of 01's a₁ at it and the bits x
--   block_bytes m from χ == the batching bytes of the equations from `from` on, of m in all
--   block_forms, block_middles == the same sums over `count` equations only, whose parts of the sections are A and b
--   FormsInputs d n m τ quad lin cells A b xs χ vs polar == these are as long as m equations of n variables and τ
--     repetitions need, the entries of xs are bits, 0 from n on, and 0 where the polar form is not asked for; the
--     coordinates of the vectors are elements
--   BlockInputs d n m τ from count .. == the same, where A and b are the parts of a block of so many equations
--   BatchInputs d n m τ qs0 qs1 cells A b x χ vs == the same for a witness x
--   TableNarrow A s T == the first n coordinates in the lane of every repetition of a table are elements of the field
--     of the alphabet A
-- Assumes nothing.
use Rattle.std.specs.Prelude.{◌≡◌, Bool, false, List, ℕ, ◌+◌, ◌*◌, ◌<◌, ◌≤◌, length}
use Rattle.algebra.specs.Coded.{mul_byte}
use Rattle.galois.specs.Degrees.{field_of}
use Rattle.protocol.specs.Strings.{bytes_for}
use Rattle.protocol.specs.Alphabet.{Alphabet}
use Rattle.protocol.specs.Shape.{Shape, most_variables, most_equations}
use Rattle.strings.specs.Sums.{byte_at, xor_sum}
use Rattle.lanes.specs.Lanes.{lanes, lane_at}
use Rattle.chunks.specs.Chunks.{most_block}
use Rattle.equations.specs.Equations.{row_of, matrix_of}
use Rattle.forms_columns.specs.Stacks.{VectorsRoom, IsBits}
use Rattle.forms_batching.specs.Batched.{CellsRoom, VectorsNarrow}
use Rattle.forms_batching.specs.Lines.{line_byte, VectorsEnd}
use Rattle.forms.specs.Forms.{form_byte, middle_byte}

abbrev pub LinesAre : ℕ → ℕ → List ℕ → List ℕ → Type 0
LinesAre m w b L = (i k : ℕ) → i < m → k < w → line_byte L m i k ≡ byte_at b (i * w + k)

abbrev pub batch_of : ℕ → ℕ → (ℕ → ℕ → ℕ) → ℕ → (ℕ → ℕ) → ℕ
batch_of d m χ e f = xor_sum m (λ i. mul_byte (field_of d) (χ e i) (f i))

abbrev pub batch_byte : ℕ → ℕ → List ℕ → ℕ → (ℕ → ℕ) → ℕ
batch_byte d m χ e f = batch_of d m (λ q i. byte_at χ (q * m + i)) e f

abbrev pub forms_byte : ℕ → ℕ → ℕ → List ℕ → List ℕ → ℕ → (ℕ → ℕ) → ℕ
forms_byte d n m A χ e f = batch_byte d m χ e (λ i. form_byte d n (matrix_of n A i) f)

abbrev pub middles_byte : ℕ → ℕ → ℕ → List ℕ → List ℕ → (ℕ → ℕ) → List ℕ → ℕ → (ℕ → ℕ) → ℕ
middles_byte d n m A b x χ e f = batch_byte d m χ e (λ i. middle_byte n (matrix_of n A i) (row_of n b i) x f)

abbrev pub block_bytes : ℕ → ℕ → List ℕ → ℕ → ℕ → ℕ
block_bytes m from χ e i = byte_at χ (e * m + from + i)

abbrev pub block_forms : ℕ → ℕ → ℕ → ℕ → ℕ → List ℕ → List ℕ → ℕ → (ℕ → ℕ) → ℕ
block_forms d n m from count A χ e f = batch_of d count (block_bytes m from χ) e (λ i. form_byte d n (matrix_of n A i) f)

abbrev pub block_middles : ℕ → ℕ → ℕ → ℕ → ℕ → List ℕ → List ℕ → (ℕ → ℕ) → List ℕ → ℕ → (ℕ → ℕ) → ℕ
block_middles d n m from count A b x χ e f = batch_of d count (block_bytes m from χ) e (λ i. middle_byte n (matrix_of n A i) (row_of n b i) x f)

abbrev pub BlockInputs : ℕ → ℕ → ℕ → ℕ → ℕ → ℕ → List ℕ → List ℕ → List ℕ → List ℕ → List ℕ → List ℕ → List ℕ → List ℕ → Bool → Type 0
BlockInputs d n m τ from count quad lin cells A b xs χ vs polar =
    (length quad ≡ lanes) × (length lin ≡ lanes) × (n ≤ most_variables) × (τ ≤ lanes) × (0 < τ) × (length A ≡ count * (n * bytes_for n)) × (length b ≡ count * bytes_for n)
    × (length χ ≡ τ * m) × VectorsRoom vs × VectorsEnd n τ vs × CellsRoom cells × (length xs ≡ most_variables) × IsBits xs × ((c : ℕ) → n ≤ c → byte_at xs c ≡ 0)
    × (polar ≡ false → (c : ℕ) → byte_at xs c ≡ 0) × (0 < count) × (count ≤ most_block) × (from + count ≤ m) × VectorsNarrow d τ vs

abbrev pub FormsInputs : ℕ → ℕ → ℕ → ℕ → List ℕ → List ℕ → List ℕ → List ℕ → List ℕ → List ℕ → List ℕ → List ℕ → Bool → Type 0
FormsInputs d n m τ quad lin cells A b xs χ vs polar =
    (length quad ≡ lanes) × (length lin ≡ lanes) × (n ≤ most_variables) × (τ ≤ lanes) × (0 < τ) × (length A ≡ m * (n * bytes_for n)) × (length b ≡ m * bytes_for n)
    × (length χ ≡ τ * m) × VectorsRoom vs × VectorsEnd n τ vs × CellsRoom cells × (length xs ≡ most_variables) × IsBits xs × ((c : ℕ) → n ≤ c → byte_at xs c ≡ 0)
    × (polar ≡ false → (c : ℕ) → byte_at xs c ≡ 0) × (m ≤ most_equations) × VectorsNarrow d τ vs

abbrev pub BatchInputs : ℕ → ℕ → ℕ → ℕ → List ℕ → List ℕ → List ℕ → List ℕ → List ℕ → List ℕ → List ℕ → List ℕ → Type 0
BatchInputs d n m τ qs0 qs1 cells A b x χ vs =
    (length qs0 ≡ lanes) × (length qs1 ≡ lanes) × (n ≤ most_variables) × (τ ≤ lanes) × (0 < τ) × (length A ≡ m * (n * bytes_for n)) × (length b ≡ m * bytes_for n)
    × (length χ ≡ τ * m) × VectorsRoom vs × VectorsEnd n τ vs × CellsRoom cells × (length x ≡ bytes_for n) × (m ≤ most_equations) × VectorsNarrow d τ vs

abbrev pub TableNarrow : Alphabet → Shape → List ℕ → Type 0
TableNarrow A s T = (e c : ℕ) → e < s.τ → c < s.n → lane_at T c e < A.K.base.size
