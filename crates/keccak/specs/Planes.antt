-- A round of the lanes as they are held, in parts.
--   moved a d == the state a after θ, which adds d to its sheets, ρ and π
--   plane₀ k s, plane₁ s, … == the planes of the state s after χ and ι: `inner` is held changed before, `outer` after
--   joined p q r s t == the state of five planes;  held_round k s == all planes of s after χ and ι
-- Assumes nothing.
use Rattle.std.specs.Prelude.{List, [], ◌∷◌, ℕ, get_or}
use Rattle.std.specs.Int.Bits.{bit_xor, bit_and, bit_or}
use Rattle.sponge.specs.Keccak.{with_effects, ρ, π}
use Rattle.keccak.specs.Flags.{ones}

unfoldable pub moved : List ℕ → List ℕ → List ℕ
moved a d = π (ρ (with_effects a d))

unfoldable pub plane₀ : ℕ → List ℕ → List ℕ
plane₀ k s =
    bit_xor (bit_xor (get_or s 0 0) (bit_or (get_or s 1 0) (get_or s 2 0))) k
    ∷ bit_xor (get_or s 1 0) (bit_or (get_or s 3 0) (bit_xor (get_or s 2 0) ones))
    ∷ bit_xor (get_or s 2 0) (bit_and (get_or s 3 0) (get_or s 4 0))
    ∷ bit_xor (get_or s 3 0) (bit_or (get_or s 4 0) (get_or s 0 0))
    ∷ bit_xor (get_or s 4 0) (bit_and (get_or s 0 0) (get_or s 1 0))
    ∷ []

unfoldable pub plane₁ : List ℕ → List ℕ
plane₁ s =
    bit_xor (get_or s 5 0) (bit_or (get_or s 6 0) (get_or s 7 0))
    ∷ bit_xor (get_or s 6 0) (bit_and (get_or s 7 0) (get_or s 8 0))
    ∷ bit_xor (get_or s 7 0) (bit_or (get_or s 8 0) (bit_xor (get_or s 9 0) ones))
    ∷ bit_xor (get_or s 8 0) (bit_or (get_or s 9 0) (get_or s 5 0))
    ∷ bit_xor (get_or s 9 0) (bit_and (get_or s 5 0) (get_or s 6 0))
    ∷ []

unfoldable pub plane₂ : List ℕ → List ℕ
plane₂ s =
    bit_xor (get_or s 10 0) (bit_or (get_or s 11 0) (get_or s 12 0))
    ∷ bit_xor (get_or s 11 0) (bit_and (get_or s 12 0) (get_or s 13 0))
    ∷ bit_xor (get_or s 12 0) (bit_and (bit_xor (get_or s 13 0) ones) (get_or s 14 0))
    ∷ bit_xor (bit_xor (get_or s 13 0) ones) (bit_or (get_or s 14 0) (get_or s 10 0))
    ∷ bit_xor (get_or s 14 0) (bit_and (get_or s 10 0) (get_or s 11 0))
    ∷ []

unfoldable pub plane₃ : List ℕ → List ℕ
plane₃ s =
    bit_xor (get_or s 15 0) (bit_and (get_or s 16 0) (get_or s 17 0))
    ∷ bit_xor (get_or s 16 0) (bit_or (get_or s 17 0) (get_or s 18 0))
    ∷ bit_xor (get_or s 17 0) (bit_or (get_or s 19 0) (bit_xor (get_or s 18 0) ones))
    ∷ bit_xor (bit_xor (get_or s 18 0) ones) (bit_and (get_or s 19 0) (get_or s 15 0))
    ∷ bit_xor (get_or s 19 0) (bit_or (get_or s 15 0) (get_or s 16 0))
    ∷ []

unfoldable pub plane₄ : List ℕ → List ℕ
plane₄ s =
    bit_xor (get_or s 20 0) (bit_and (bit_xor (get_or s 21 0) ones) (get_or s 22 0))
    ∷ bit_xor (bit_xor (get_or s 21 0) ones) (bit_or (get_or s 22 0) (get_or s 23 0))
    ∷ bit_xor (get_or s 22 0) (bit_and (get_or s 23 0) (get_or s 24 0))
    ∷ bit_xor (get_or s 23 0) (bit_or (get_or s 24 0) (get_or s 20 0))
    ∷ bit_xor (get_or s 24 0) (bit_and (get_or s 20 0) (get_or s 21 0))
    ∷ []

unfoldable pub joined : List ℕ → List ℕ → List ℕ → List ℕ → List ℕ → List ℕ
joined p q r s t =
    get_or p 0 0 ∷ get_or p 1 0 ∷ get_or p 2 0 ∷ get_or p 3 0 ∷ get_or p 4 0
    ∷ get_or q 0 0 ∷ get_or q 1 0 ∷ get_or q 2 0 ∷ get_or q 3 0 ∷ get_or q 4 0
    ∷ get_or r 0 0 ∷ get_or r 1 0 ∷ get_or r 2 0 ∷ get_or r 3 0 ∷ get_or r 4 0
    ∷ get_or s 0 0 ∷ get_or s 1 0 ∷ get_or s 2 0 ∷ get_or s 3 0 ∷ get_or s 4 0
    ∷ get_or t 0 0 ∷ get_or t 1 0 ∷ get_or t 2 0 ∷ get_or t 3 0 ∷ get_or t 4 0
    ∷ []

unfoldable pub held_round : ℕ → List ℕ → List ℕ
held_round k s = joined (plane₀ k s) (plane₁ s) (plane₂ s) (plane₃ s) (plane₄ s)
