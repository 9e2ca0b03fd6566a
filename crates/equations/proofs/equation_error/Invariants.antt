-- `equations::equation_error` meets its contract. The invariant: the sum is what the definition of the error has, over
-- the rows below rho.
-- Assumes nothing.
use Prim.Native.Nat.{ℕ, ◌*◌}
use mathlib.Core.Path.{◌≡◌}
use mathlib.Core.List.{List}
use lib.Bits.{bit_xor}
use Rattle.protocol.specs.Strings.{bit}
use Rattle.strings.specs.Sums.{xor_sum}
use Rattle.equations.specs.Equations.{row_product, row_of}
use Rattle.equations.proofs.equation_error.Given as goal

-- the error, over the rows below k
abbrev pub up_to : ℕ → List ℕ → List ℕ → ℕ → List ℕ → ℕ → ℕ
up_to n A b y x k = bit_xor (bit_xor (xor_sum k (λ ρ. bit x ρ * row_product (row_of n A ρ) x)) (row_product b x)) y

abbrev pub invariant-loop-rho : goal.invariant-loop-rho
invariant-loop-rho l = l.sum ≡ up_to l.n l.matrix l.row l.y l.x l.rho
