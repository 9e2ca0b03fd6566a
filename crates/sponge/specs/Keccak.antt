-- Keccak-f[1600] of FIPS 202: the five step mappings (3.2), the round (3.3) and the permutation (3.4).
--   column a x == the sum of the five lanes of sheet x: the parities of its columns, C[x] of algorithm 1
--   effects c == what θ adds to the lanes of each sheet, D[x] from C;  with_effects a d == the state a with D added
--   θ, ρ, π, χ == the step mappings;  ι k == ι in a round whose constant is k
--   rounded k a == the state a after a round whose constant is k (Rnd);  rounds i a == after the first i rounds
--   round_count == how many rounds there are;  keccak a == the state a after them: Keccak-f[1600]
-- Assumes nothing.
use Rattle.std.specs.Prelude.{List, ℕ, zero, suc, ◌+◌, ◌*◌, ◌%◌, get_or, set}
use Rattle.std.specs.Int.Bits.{bit_xor, bit_and}
use Rattle.sponge.specs.Lanes.{rotated, complement, lane, state_of, listed}
use Rattle.sponge.specs.Tables.{offset, constant}

unfoldable pub column : List ℕ → ℕ → ℕ
column a x = bit_xor (bit_xor (bit_xor (bit_xor (lane a x 0) (lane a x 1)) (lane a x 2)) (lane a x 3)) (lane a x 4)

unfoldable pub effects : List ℕ → List ℕ
effects c = listed 5 (λ x. bit_xor (get_or c ((x + 4) % 5) 0) (rotated (get_or c ((x + 1) % 5) 0) 1)) 0

unfoldable pub with_effects : List ℕ → List ℕ → List ℕ
with_effects a d = state_of (λ x y. bit_xor (lane a x y) (get_or d x 0))

unfoldable pub θ : List ℕ → List ℕ
θ a = with_effects a (effects (listed 5 (column a) 0))

unfoldable pub ρ : List ℕ → List ℕ
ρ a = state_of (λ x y. rotated (lane a x y) (offset x y))

unfoldable pub π : List ℕ → List ℕ
π a = state_of (λ x y. lane a (x + 3 * y) x)

unfoldable pub χ : List ℕ → List ℕ
χ a = state_of (λ x y. bit_xor (lane a x y) (bit_and (complement (lane a (x + 1) y)) (lane a (x + 2) y)))

unfoldable pub ι : ℕ → List ℕ → List ℕ
ι k a = set a 0 (bit_xor (lane a 0 0) k)

unfoldable pub rounded : ℕ → List ℕ → List ℕ
rounded k a = ι k (χ (π (ρ (θ a))))

unfoldable pub rounds : ℕ → List ℕ → List ℕ
rounds zero a = a
rounds (suc i) a = rounded (constant i) (rounds i a)

abbrev pub round_count : ℕ
round_count = 24

unfoldable pub keccak : List ℕ → List ℕ
keccak a = rounds round_count a
