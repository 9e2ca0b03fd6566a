-- The sponge of FIPS 202 (4) on Keccak-f[1600], and SHAKE256 (6.2), for strings of whole bytes.
-- Byte j of a state is byte j mod 8 of its lane j/8, lowest first (3.1.2, B.1). Sums are exclusive or.
--   rate == the bytes of a block: capacity 512 leaves 1088 bits (6.2)
--   suffix == the domain suffix 1111 and the padding's first bit, as the byte 1F;  last_bit == its last, as 80 (B.2)
--   byte_in s j == byte j of the state s
--   added s j b == the state s with b added to its byte j;  added_all s j p == with the bytes of p added from byte j on
--   padding q == the q bytes after a message that fill its last block: suffix 1111, then pad10*1 (5.1)
--   padded m == the message m with its padding;  blocks m == how many blocks these are
--   absorbing s p n == the state s after the n blocks of p;  squeezing s k == the state s, k permutations later
--   shake256 m d == the first d bytes of SHAKE256(m)
-- Assumes nothing.
use Rattle.std.specs.Prelude.{List, [], ◌∷◌, ◌++◌, ℕ, zero, suc, ◌+◌, ◌*◌, ◌-◌, ◌/◌, ◌%◌, ◌^◌, length, get_or, set, take, drop, replicate}
use Rattle.std.specs.Int.Bits.{bit_xor}
use Rattle.sponge.specs.Lanes.{zero_state, listed}
use Rattle.sponge.specs.Keccak.{keccak}

abbrev pub rate : ℕ
rate = 136

abbrev pub suffix : ℕ
suffix = 0x1F

abbrev pub last_bit : ℕ
last_bit = 0x80

unfoldable pub byte_in : List ℕ → ℕ → ℕ
byte_in s j = get_or s (j / 8) 0 / 2 ^ (8 * (j % 8)) % 2 ^ 8

unfoldable pub added : List ℕ → ℕ → ℕ → List ℕ
added s j b = set s (j / 8) (bit_xor (get_or s (j / 8) 0) (b * 2 ^ (8 * (j % 8))))

unfoldable pub added_all : List ℕ → ℕ → List ℕ → List ℕ
added_all s j [] = s
added_all s j (b ∷ p) = added_all (added s j b) (suc j) p

unfoldable pub padding : ℕ → List ℕ
padding q = set (suffix ∷ replicate (q - 1) 0) (q - 1) (get_or (suffix ∷ replicate (q - 1) 0) (q - 1) 0 + last_bit)

unfoldable pub padded : List ℕ → List ℕ
padded m = m ++ padding (rate - length m % rate)

unfoldable pub blocks : List ℕ → ℕ
blocks m = length m / rate + 1

unfoldable pub absorbing : List ℕ → List ℕ → ℕ → List ℕ
absorbing s p zero = s
absorbing s p (suc n) = absorbing (keccak (added_all s 0 (take rate p))) (drop rate p) n

unfoldable pub squeezing : List ℕ → ℕ → List ℕ
squeezing s zero = s
squeezing s (suc k) = keccak (squeezing s k)

unfoldable pub shake256 : List ℕ → ℕ → List ℕ
shake256 m d =
    listed d (λ i. byte_in (squeezing (absorbing zero_state (padded m) (blocks m)) (i / rate)) (i % rate)) 0
