-- States of Keccak-f[1600] (FIPS 202, 3.1): twenty-five lanes of 64 bits, each lane as a number below 2^64, its bit z
-- weighing 2^z.
--   lane_count == the lanes of a state;  zero_state == the state of zeros
--   rotated x r == the lane x rotated by r places towards its high end, r < 64
--   complement x == the lane x with each bit changed
--   lane a x y == lane (x, y) of the state a, the coordinates modulo 5
--   state_of f == the state whose lane (x, y) is f x y;  listed n f i == f i, f (i+1), …, f (i+n−1)
-- Assumes nothing.
use Rattle.std.specs.Prelude.{List, [], ◌∷◌, ℕ, zero, suc, ◌+◌, ◌*◌, ◌-◌, ◌/◌, ◌%◌, ◌^◌, get_or, replicate}
use Rattle.std.specs.Int.Bits.{bit_or}

abbrev pub lane_count : ℕ
lane_count = 25

abbrev pub zero_state : List ℕ
zero_state = replicate lane_count 0

unfoldable pub rotated : ℕ → ℕ → ℕ
rotated x zero = x
rotated x (suc r) = bit_or (x * 2 ^ suc r % 2 ^ 64) (x / 2 ^ (64 - suc r))

unfoldable pub complement : ℕ → ℕ
complement x = 2 ^ 64 - 1 - x

unfoldable pub lane : List ℕ → ℕ → ℕ → ℕ
lane a x y = get_or a (x % 5 + 5 * (y % 5)) 0

unfoldable pub state_of : (ℕ → ℕ → ℕ) → List ℕ
state_of f =
    f 0 0 ∷ f 1 0 ∷ f 2 0 ∷ f 3 0 ∷ f 4 0
    ∷ f 0 1 ∷ f 1 1 ∷ f 2 1 ∷ f 3 1 ∷ f 4 1
    ∷ f 0 2 ∷ f 1 2 ∷ f 2 2 ∷ f 3 2 ∷ f 4 2
    ∷ f 0 3 ∷ f 1 3 ∷ f 2 3 ∷ f 3 3 ∷ f 4 3
    ∷ f 0 4 ∷ f 1 4 ∷ f 2 4 ∷ f 3 4 ∷ f 4 4
    ∷ []

unfoldable pub listed : ℕ → (ℕ → ℕ) → ℕ → List ℕ
listed zero f i = []
listed (suc n) f i = f i ∷ listed n f (suc i)
