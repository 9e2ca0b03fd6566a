-- States of which some lanes are held with each bit changed, so that χ wants few complements.
--   ones == the lane of ones;  flag p x == x, or where p holds x with each bit changed
--   named m x y == whether m names lane (x, y);  flips m a == the state a with the lanes changed that m names
--   outer, inner == the lanes that are held changed between rounds, and before χ
-- Assumes nothing.
use Rattle.std.specs.Prelude.{List, [], ◌∷◌, Bool, true, false, ℕ, ◌+◌, ◌*◌, ◌%◌, ◌^◌, ◌-◌, get_or}
use Rattle.std.specs.Int.Bits.{bit_xor}
use Rattle.sponge.specs.Lanes.{lane, state_of}

abbrev pub ones : ℕ
ones = 2 ^ 64 - 1

unfoldable pub flag : Bool → ℕ → ℕ
flag false x = x
flag true x = bit_xor x ones

unfoldable pub named : List Bool → ℕ → ℕ → Bool
named m x y = get_or m (x % 5 + 5 * (y % 5)) false

unfoldable pub flips : List Bool → List ℕ → List ℕ
flips m a = state_of (λ x y. flag (named m x y) (lane a x y))

unfoldable pub outer : List Bool
outer =
    false ∷ true ∷ true ∷ false ∷ false
    ∷ false ∷ false ∷ false ∷ true ∷ false
    ∷ false ∷ false ∷ true ∷ false ∷ false
    ∷ false ∷ false ∷ true ∷ false ∷ false
    ∷ true ∷ false ∷ false ∷ false ∷ false
    ∷ []

unfoldable pub inner : List Bool
inner =
    true ∷ false ∷ true ∷ true ∷ false
    ∷ true ∷ false ∷ true ∷ false ∷ false
    ∷ true ∷ false ∷ true ∷ false ∷ false
    ∷ false ∷ true ∷ false ∷ true ∷ true
    ∷ true ∷ false ∷ false ∷ true ∷ false
    ∷ []
