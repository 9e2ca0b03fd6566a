-- The alphabet of 01: bits, which stand for 00 and 01 in K, eight to a byte, with as many mask coordinates as the
-- field's degree.
--   binary K == bits over the field K;  bits256, bits16 == bits over GF(256) and over GF(16)
-- Assumes nothing.
use Rattle.std.specs.Prelude.{◌%◌}
use Rattle.algebra.specs.Coded.{Coded}
use Rattle.galois.specs.Gf256.{gf256}
use Rattle.galois.specs.Gf16.{gf16}
use Rattle.protocol.specs.Strings.{bytes_for, bit, pack, spare_zero}
use Rattle.protocol.specs.Alphabet.{Alphabet}

abbrev pub binary : Coded → Alphabet
binary K = record {
  K = K;
  symbols = 2;
  embed = K.elem;
  symbol_of = λ a. K.byte a % 2;
  width = bytes_for;
  at = bit;
  pack = pack;
  spare_zero = spare_zero;
  masks = K.degree;
}

abbrev pub bits256 : Alphabet
bits256 = binary gf256

abbrev pub bits16 : Alphabet
bits16 = binary gf16
