-- The equations of a key at the bits of a witness, on bytes.
--   row_product row x == the product over GF(2) of the whole of a row with x
--   row_of n A ρ == row ρ of a matrix of n variables;  matrix_of n A i == matrix i of a section
--   error_bit n A b y x == xᵀ·A·x + b·x + y;  key_error n A b y x i == the error of equation i of the sections A, b, y at
--     x
--   EquationsFit n m A b y x == the sections are those of m equations of n variables, and x that of a witness, by their
--     lengths
--   FirstIn errors found == found is the first of the errors that is not 0, or that there is none
-- Assumes nothing.
use Rattle.std.specs.Prelude.{◌≡◌, ◌≢◌, List, ℕ, ◌*◌, ◌<◌, ◌≤◌, length, Option, Some, None}
use Rattle.std.specs.Int.Bits.{bit_xor}
use Rattle.protocol.specs.Lists.{block_at}
use Rattle.protocol.specs.Strings.{bytes_for, bit}
use Rattle.strings.specs.Sums.{byte_at, xor_sum}
use Rattle.strings.specs.Products.{bit_product}

abbrev pub row_product : List ℕ → List ℕ → ℕ
row_product row x = bit_product (length row * 8) row x

abbrev pub row_of : ℕ → List ℕ → ℕ → List ℕ
row_of n A ρ = block_at A (bytes_for n) ρ

abbrev pub matrix_of : ℕ → List ℕ → ℕ → List ℕ
matrix_of n A i = block_at A (n * bytes_for n) i

unfoldable pub error_bit : ℕ → List ℕ → List ℕ → ℕ → List ℕ → ℕ
error_bit n A b y x = bit_xor (bit_xor (xor_sum n (λ ρ. bit x ρ * row_product (row_of n A ρ) x)) (row_product b x)) y

unfoldable pub key_error : ℕ → List ℕ → List ℕ → List ℕ → List ℕ → ℕ → ℕ
key_error n A b y x i = error_bit n (matrix_of n A i) (row_of n b i) (bit y i) x

abbrev pub EquationsFit : ℕ → ℕ → List ℕ → List ℕ → List ℕ → List ℕ → Type 0
EquationsFit n m A b y x = (n < 65536) × (length x ≡ bytes_for n) × (length A ≡ m * (n * bytes_for n)) × (length b ≡ m * bytes_for n) × (m ≤ length y * 8)

abbrev pub FirstIn : List ℕ → Option ℕ → Type 0
FirstIn errors (Some i) = (i < length errors) × (byte_at errors i ≢ 0) × ((k : ℕ) → k < i → byte_at errors k ≡ 0)
FirstIn errors None = (k : ℕ) → k < length errors → byte_at errors k ≡ 0
