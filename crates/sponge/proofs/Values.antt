-- The values of the definitions, computed.
-- Assumes nothing.
use mathlib.Core.Path.{◌≡◌, ap}
use mathlib.Core.List.{List, [], ◌∷◌}
use Prim.Native.Nat.{ℕ, ◌/◌, ◌%◌}
use lib.ListN.{take}
use Rattle.sponge.specs.Lanes.{rotated, complement, lane, state_of, listed, zero_state}
use Rattle.sponge.specs.Tables.{offset, offsets, constant, constants}
use Rattle.sponge.specs.Keccak.{column, effects, with_effects, θ, ρ, π, χ, ι, rounded, rounds, keccak}
use Rattle.sponge.specs.Sponge.{rate, byte_in, added, added_all, padding, padded, blocks, absorbing, squeezing, shake256}
use Rattle.sponge.proofs.Tests.{numbers}
use Rattle.sponge.specs.Values.{KeccakZero, ShakeEmpty, ShakeByte}

-- all that computes a permutation
unfoldable permuting : ℕ
unfolding keccak rounds rounded ι χ π ρ θ with_effects effects column listed rotated complement lane state_of offset offsets constant constants
permuting = 0

pub keccak-zero : KeccakZero
unfolding permuting
keccak-zero = numbers _ _ tt

-- the state after the one block of a message

unfoldable empty_state : List ℕ
empty_state =
    0x138da80b2bddb946 ∷ 0x24eb3e74eb3f3b23 ∷ 0x821bb862ea52cd3f ∷ 0x2f76d56e64270cb5 ∷ 0x00f2c0d8ddc45dd7
    ∷ 0xf692b5679d0105cb ∷ 0x86b49a47491c82fc ∷ 0xbec4b7b3ac2e2940 ∷ 0x5739b16f61961e14 ∷ 0xe35ab4d0edc72c69
    ∷ 0x7b93928e3c2207dc ∷ 0x532886ab0ebc84ef ∷ 0xb78ff54655c79e34 ∷ 0x10502c46385c77c2 ∷ 0xe51151c185c146d8
    ∷ 0x86cf16cd6b2a5295 ∷ 0xdd1f3b9e1022d1f3 ∷ 0x3a875b0deff46433 ∷ 0xb8ff7998f9f60fe4 ∷ 0x0162d17ae444523d
    ∷ 0xe22da86c64fd3bd6 ∷ 0xd395c1c0d7fde4b7 ∷ 0xd8eb09f89dc15112 ∷ 0x71ddd284a934f091 ∷ 0xec77442301d68b89
    ∷ []

unfoldable byte_state : List ℕ
byte_state =
    0xd0edf98f4807bbaa ∷ 0x0ab691773b606a5d ∷ 0xad1b8f609350d416 ∷ 0x15f254919accc9c0 ∷ 0x7172e2eebf6f1cb8
    ∷ 0x53447890fe20e7da ∷ 0x079b8472f8dbd567 ∷ 0x50689c5c85553092 ∷ 0xa3f7cd8f3c777d5e ∷ 0x0468c0b55d7becc8
    ∷ 0x0d1b2719901873a3 ∷ 0x66e8dc6b33837bda ∷ 0x612cf89cd25279a3 ∷ 0xcfb398b8087170ec ∷ 0xa12fdf23ba8ce84c
    ∷ 0x7a53d27479351666 ∷ 0xd43750515cfe1dcd ∷ 0x3c837af0906790f2 ∷ 0x52e7f6bd37051d84 ∷ 0x0feff7403210bba8
    ∷ 0x96ec4488d32a30f1 ∷ 0xa10c3f4a5bbc3c36 ∷ 0x45dc13f96c7f7139 ∷ 0x402dcd4d4fd3850e ∷ 0x5c1e85b4b9d67791
    ∷ []

empty_state_lem : keccak (added_all zero_state 0 (take rate (padded []))) ≡ empty_state
unfolding empty_state permuting padded padding added_all added
empty_state_lem = numbers _ _ tt

byte_state_lem : keccak (added_all zero_state 0 (take rate (padded (0x0f ∷ [])))) ≡ byte_state
unfolding byte_state permuting padded padding added_all added
byte_state_lem = numbers _ _ tt

pub shake_empty : ShakeEmpty
unfolding shake256 blocks absorbing squeezing listed byte_in empty_state
shake_empty = ap (λ s. listed 32 (λ i. byte_in (squeezing s (i / rate)) (i % rate)) 0) empty_state_lem

pub shake_byte : ShakeByte
unfolding shake256 blocks absorbing squeezing listed byte_in byte_state
shake_byte = ap (λ s. listed 32 (λ i. byte_in (squeezing s (i / rate)) (i % rate)) 0) byte_state_lem
