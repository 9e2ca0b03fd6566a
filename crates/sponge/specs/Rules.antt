-- The rules of FIPS 202 that the tables and the padding in bytes follow, and that they agree.
--   walk n t x y found == ρ's offsets as 3.2.2 finds them, n steps from step t at lane (x, y) on: step t gives the lane
--     (t+1)(t+2)/2 and goes on to (y, 2x+3y)
--   register t == the register R of algorithm 5 after t steps, bit i of it weighing 2^i: rc(t) is its lowest bit
--   shifted low r == the register r after a step, `low` telling whether its highest bit is 0
--   bits_of i j == the first j terms of constant_of i;  constant_of i == Σ_j rc(j+7i)·2^(2^j−1), j ≤ 6 (algorithm 6)
--   bits q == 1111 and pad10*1, which are q bytes in all;  bytes q b == the bits b as q bytes, lowest first (B.1)
--   byte_of b n == the number that the first n bits of b write, lowest first
--   from_bits q, in_bytes q == the paddings of q bytes and less, from bits and as `padding` has them
--   OffsetsRight, ConstantsRight, PaddingRight == the tables, and the padding of each length, are those of the rules
-- Assumes nothing.
use Rattle.std.specs.Prelude.{◌≡◌, List, [], ◌∷◌, ◌++◌, Bool, true, false, ℕ, zero, suc, ◌+◌, ◌*◌, ◌-◌, ◌/◌, ◌%◌, ◌^◌, get_or, set, drop, replicate, ltb}
use Rattle.std.specs.Int.Bits.{bit_xor}
use Rattle.sponge.specs.Lanes.{zero_state, listed}
use Rattle.sponge.specs.Tables.{offsets, constants}
use Rattle.sponge.specs.Keccak.{round_count}
use Rattle.sponge.specs.Sponge.{rate, padding}

unfoldable pub walk : ℕ → ℕ → ℕ → ℕ → List ℕ → List ℕ
walk zero t x y found = found
walk (suc n) t x y found =
    walk n (suc t) y ((2 * x + 3 * y) % 5) (set found (x + 5 * y) ((t + 1) * (t + 2) / 2 % 64))

unfoldable pub shifted : Bool → ℕ → ℕ
shifted true r = 2 * r
shifted false r = bit_xor (2 * r - 256) 0x71

unfoldable pub register : ℕ → ℕ
register zero = 1
register (suc t) = shifted (ltb (2 * register t) 256) (register t)

unfoldable pub bits_of : ℕ → ℕ → ℕ
bits_of i zero = 0
bits_of i (suc j) = register (j + 7 * i) % 2 * 2 ^ (2 ^ j - 1) + bits_of i j

unfoldable pub constant_of : ℕ → ℕ
constant_of i = bits_of i 7

unfoldable pub bits : ℕ → List ℕ
bits q = (1 ∷ 1 ∷ 1 ∷ 1 ∷ []) ++ ((1 ∷ []) ++ (replicate (8 * q - 6) 0 ++ (1 ∷ [])))

unfoldable pub byte_of : List ℕ → ℕ → ℕ
byte_of b zero = 0
byte_of b (suc n) = get_or b 0 0 + 2 * byte_of (drop 1 b) n

unfoldable pub bytes : ℕ → List ℕ → List ℕ
bytes zero b = []
bytes (suc q) b = byte_of b 8 ∷ bytes q (drop 8 b)

unfoldable pub from_bits : ℕ → List (List ℕ)
from_bits zero = []
from_bits (suc q) = bytes (suc q) (bits (suc q)) ∷ from_bits q

unfoldable pub in_bytes : ℕ → List (List ℕ)
in_bytes zero = []
in_bytes (suc q) = padding (suc q) ∷ in_bytes q

abbrev pub OffsetsRight : Type 0
OffsetsRight = offsets ≡ walk 24 0 1 0 zero_state

abbrev pub ConstantsRight : Type 0
ConstantsRight = constants ≡ listed round_count constant_of 0

abbrev pub PaddingRight : Type 0
PaddingRight = in_bytes rate ≡ from_bits rate
