-- `forms::batch::batch_forms` meets its contract. The invariant: the equations of the blocks before g are added (`BlockSums`).
-- Assumes nothing.
use Prim.Native.Nat.{ℕ, ◌+◌, ◌*◌, ◌<◌}
use mathlib.Core.List.{List}
use mathlib.Core.Path.{◌≡◌}
use lib.ListN.{length}
use lib.Bits.{bit_xor}
use Rattle.algebra.specs.Coded.{mul_byte}
use Rattle.galois.specs.Degrees.{field_of}
use Rattle.strings.specs.Sums.{byte_at, xor_sum}
use Rattle.lanes.specs.Lanes.{lanes}
use Rattle.forms_columns.specs.Stacks.{coordinate_of}
use Rattle.equations.specs.Equations.{row_of, matrix_of}
use Rattle.forms.specs.Forms.{form_byte, middle_byte}
use Rattle.std.proofs.Common.{min}
use Rattle.chunks.specs.Chunks.{most_block}
use Rattle.forms.proofs.batch.batch_forms.Given as goal

-- what equation i adds in repetition e
abbrev pub formTerm : ℕ → ℕ → ℕ → List ℕ → List ℕ → List ℕ → ℕ → ℕ → ℕ
formTerm d n m A χ vs e i = mul_byte (field_of d) (byte_at χ (e * m + i)) (form_byte d n (matrix_of n A i) (coordinate_of vs e))

abbrev pub middleTerm : ℕ → ℕ → ℕ → List ℕ → List ℕ → List ℕ → List ℕ → List ℕ → ℕ → ℕ → ℕ
middleTerm d n m A b xs χ vs e i = mul_byte (field_of d) (byte_at χ (e * m + i)) (middle_byte n (matrix_of n A i) (row_of n b i) (byte_at xs) (coordinate_of vs e))

abbrev pub invariant-loop-g : goal.invariant-loop-g
invariant-loop-g l =
    let from = min (l.g * most_block) l.f.m in
    (length l.quad ≡ lanes) × (length l.lin ≡ lanes)
    × ((e : ℕ) → e < l.f.tau → byte_at l.quad e ≡ bit_xor (byte_at l.initial.quad e) (xor_sum from (formTerm l.f.degree l.f.n l.f.m l.a l.chi l.vectors e)))
    × ((e : ℕ) → e < l.f.tau → byte_at l.lin e ≡ bit_xor (byte_at l.initial.lin e) (xor_sum from (middleTerm l.f.degree l.f.n l.f.m l.a l.b l.xs l.chi l.vectors e)))
