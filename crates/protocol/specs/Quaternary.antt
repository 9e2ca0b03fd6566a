-- The alphabet of request 11: "A symbol takes two bits, four to a byte, lowest first; 0, 1, 2, 3 stand for 00, 01, BC,
-- BD in GF(256)." These are GF(4) inside GF(256). "The mask is four symbols for each repetition with α^0 to α^3."
-- Symbol c of a string is its bits 2c and 2c + 1, the lower first. So a string of L symbols is one of 2L bits: ⌈L/4⌉
-- bytes, and packing and spare bits are those of bits.
--   symbol_byte x == the byte of the element that symbol x stands for
--   symbol_in b == the symbol that stands for the element with byte b: of the four bytes bit 0 and bit 7 tell which
--   symbol_at s c == symbol c of s;  symbol_bit f b == bit b of the string whose symbols are f
--   fours256 == the alphabet
-- Assumes nothing.
use Rattle.std.specs.Prelude.{List, [], ◌∷◌, ℕ, ◌+◌, ◌*◌, ◌/◌, ◌%◌, ◌^◌, get_or}
use Rattle.galois.specs.Gf256.{gf256}
use Rattle.protocol.specs.Strings.{bytes_for, bit, pack, spare_zero}
use Rattle.protocol.specs.Alphabet.{Alphabet}

unfoldable pub symbol_byte : ℕ → ℕ
symbol_byte x = get_or (0x00 ∷ 0x01 ∷ 0xBC ∷ 0xBD ∷ []) x 0

unfoldable pub symbol_in : ℕ → ℕ
symbol_in b = b % 2 + 2 * (b / 128)

unfoldable pub symbol_at : List ℕ → ℕ → ℕ
symbol_at s c = bit s (2 * c) + 2 * bit s (2 * c + 1)

unfoldable pub symbol_bit : (ℕ → ℕ) → ℕ → ℕ
symbol_bit f b = f (b / 2) / 2 ^ (b % 2) % 2

abbrev pub fours256 : Alphabet
fours256 = record {
  K = gf256;
  symbols = 4;
  embed = λ x. gf256.elem (symbol_byte x);
  symbol_of = λ a. symbol_in (gf256.byte a);
  width = λ L. bytes_for (2 * L);
  at = symbol_at;
  pack = λ L f. pack (2 * L) (symbol_bit f);
  spare_zero = λ s L. spare_zero s (2 * L);
  masks = 4;
}
