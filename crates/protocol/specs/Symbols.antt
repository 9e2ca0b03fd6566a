-- What request 11 says of symbols, said apart from the definition and as values. proofs/Symbols has each statement.
--   FourToAByte == a string of symbols by its bytes: a byte is four digits to the base 4, the lowest first
--   plus x y, times x y == sum and product of symbols by their two bits: x stands for (x mod 2) + ⌊x/2⌋·ω, where ω is
--     BC and ω² = ω + 1
--   pairs f == f at the 16 pairs of symbols;  sums, products == the bytes of those sums and products in GF(256)
--   partners == document 003's set over GF(4), with 80 hash rows
--   masked == a string of the symbols 0, then 3, 2, 1, 2, then 3, 1, 2, 3
-- Exchanging BC and BD keeps all sums and products of symbols: only values tell which is which.
-- Assumes nothing.
use Rattle.std.specs.Prelude.{◌≡◌, true, false, List, [], ◌∷◌, ℕ, ◌+◌, ◌*◌, ◌/◌, ◌%◌, ◌^◌, get_or}
use Rattle.galois.specs.Gf256.{gf256}
use Rattle.protocol.specs.Lists.{table, concat}
use Rattle.protocol.specs.Alphabet.{sym}
use Rattle.protocol.specs.Quaternary.{symbol_byte, fours256}
use Rattle.protocol.specs.Shape.{Shape, mask_at, k_of, l_of, w_of}
use Rattle.protocol.specs.Forms.{mask_of}
open fours256 use {embed, symbol_of, width, at, pack, spare_zero, masks}

-- "four to a byte, lowest first"; "every bit row of c entries becomes a symbol row of ⌈c/4⌉ bytes"
pub record FourToAByte : Type 0 where
  pub by_digits : (s : List ℕ) (c : ℕ) → at s c ≡ get_or s (c / 4) 0 / 4 ^ (c % 4) % 4
  pub width_is : (c : ℕ) → width c ≡ (c + 3) / 4

unfoldable pub plus : ℕ → ℕ → ℕ
plus x y = (x % 2 + y % 2) % 2 + 2 * ((x / 2 + y / 2) % 2)

unfoldable pub times : ℕ → ℕ → ℕ
times x y = (x % 2 * (y % 2) + x / 2 * (y / 2)) % 2 + 2 * ((x % 2 * (y / 2) + x / 2 * (y % 2) + x / 2 * (y / 2)) % 2)

abbrev pub pairs : (ℕ → ℕ → ℕ) → List ℕ
pairs f = concat (table 4 (λ x. table 4 (f x)))

abbrev pub sums : List ℕ
sums =
    0x00 ∷ 0x01 ∷ 0xBC ∷ 0xBD
    ∷ 0x01 ∷ 0x00 ∷ 0xBD ∷ 0xBC
    ∷ 0xBC ∷ 0xBD ∷ 0x00 ∷ 0x01
    ∷ 0xBD ∷ 0xBC ∷ 0x01 ∷ 0x00 ∷ []

abbrev pub products : List ℕ
products =
    0x00 ∷ 0x00 ∷ 0x00 ∷ 0x00
    ∷ 0x00 ∷ 0x01 ∷ 0xBC ∷ 0xBD
    ∷ 0x00 ∷ 0xBC ∷ 0xBD ∷ 0x01
    ∷ 0x00 ∷ 0xBD ∷ 0x01 ∷ 0xBC ∷ []

pub record SymbolTables : Type 0 where
  pub elements_are : table 4 (λ x. gf256.byte (embed x)) ≡ 0x00 ∷ 0x01 ∷ 0xBC ∷ 0xBD ∷ []
  pub symbols_are : table 4 (λ x. symbol_of (embed x)) ≡ 0 ∷ 1 ∷ 2 ∷ 3 ∷ []
  pub sums-are : pairs (λ x y. gf256.byte (gf256.base.R.add (embed x) (embed y))) ≡ sums
  pub products_are : pairs (λ x y. gf256.byte (gf256.base.R.mul (embed x) (embed y))) ≡ products
  pub plus_is : pairs (λ x y. symbol_byte (plus x y)) ≡ sums
  pub times_is : pairs (λ x y. symbol_byte (times x y)) ≡ products

-- A byte's four symbols; and six symbols, whose second byte has four spare bits.
pub record SymbolStrings : Type 0 where
  pub four_read : table 4 (at (0xE4 ∷ [])) ≡ 0 ∷ 1 ∷ 2 ∷ 3 ∷ []
  pub six_read : table 6 (at (0xE4 ∷ 0x0B ∷ [])) ≡ 0 ∷ 1 ∷ 2 ∷ 3 ∷ 3 ∷ 2 ∷ []
  pub six-packed : pack 6 (λ c. get_or (0 ∷ 1 ∷ 2 ∷ 3 ∷ 3 ∷ 2 ∷ 1 ∷ 3 ∷ []) c 0) ≡ 0xE4 ∷ 0x0B ∷ []
  pub six-spare : spare_zero (0xE4 ∷ 0x0B ∷ []) 6 ≡ true
  pub first-spare-set : spare_zero (0xE4 ∷ 0x1B ∷ []) 6 ≡ false
  pub last-spare-set : spare_zero (0xE4 ∷ 0x8B ∷ []) 6 ≡ false

abbrev pub partners : Shape
partners = record { n = 88; m = 88; τ = 17; t = 80 }

abbrev pub masked : List ℕ
masked = 0x6C ∷ 0x9E ∷ 0x03 ∷ []

-- "The mask is four symbols for each repetition with α^0 to α^3, and n, t, k and L count symbols"
pub record SymbolMasks : Type 0 where
  pub masks_are : masks ≡ 4
  pub k_is : k_of fours256 partners ≡ 156
  pub L_is : l_of fours256 partners ≡ 236
  pub w_is : w_of fours256 partners ≡ 59
  pub mask-second : mask_at fours256 partners 1 ≡ 92
  pub mask-last : mask_at fours256 partners 16 ≡ 152
  -- BD + 02·BC + 04·01 + 08·BC
  pub mask_is : gf256.byte (mask_of fours256 (record { n = 1; m = 1; τ = 1; t = 1 }) 0 (sym fours256 masked)) ≡ 0x4D
