-- The forms of one equation, on bytes: at the coordinates f of a vector, and at the bits x of a witness. The degree of
-- the field is d (field's Degrees).
--   row_bit n row f == Σ_c row_c·f(c), for a row of bits
--   form_byte d n A f == Σ_ρ f(ρ) · Σ_c A(ρ, c)·f(c), the form at the vector
--   middle_byte n A b x f == xᵀ·A·f + (A·x)ᵀ·f + b·f: 01's a₁
-- Assumes nothing.
use Rattle.std.specs.Prelude.{List, ℕ, ◌*◌}
use Rattle.std.specs.Int.Bits.{bit_xor}
use Rattle.algebra.specs.Coded.{mul_byte}
use Rattle.galois.specs.Degrees.{field_of}
use Rattle.protocol.specs.Strings.{bit}
use Rattle.strings.specs.Sums.{xor_sum}
use Rattle.equations.specs.Equations.{row_of}

abbrev pub row_bit : ℕ → List ℕ → (ℕ → ℕ) → ℕ
row_bit n row f = xor_sum n (λ c. bit row c * f c)

abbrev pub form_byte : ℕ → ℕ → List ℕ → (ℕ → ℕ) → ℕ
form_byte d n A f = xor_sum n (λ ρ. mul_byte (field_of d) (f ρ) (row_bit n (row_of n A ρ) f))

abbrev pub middle_byte : ℕ → List ℕ → List ℕ → (ℕ → ℕ) → (ℕ → ℕ) → ℕ
middle_byte n A b x f = bit_xor (row_bit n b f) (xor_sum n (λ ρ. bit_xor (x ρ * row_bit n (row_of n A ρ) f) (row_bit n (row_of n A ρ) x * f ρ)))
