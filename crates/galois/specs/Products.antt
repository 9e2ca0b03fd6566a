-- What pins the moduli: 11D, too, gives a field of 256 elements, and 19 one of 16, but other products.
--   Monic, Monic16 == the modulus has the field's degree
--   Product5783, Product5713 == the worked products of FIPS 197, section 4.2;  Product0552 == 05 and 52 are inverse
--   Product0209 == over GF(16), 02 and 09 are inverse
--   Product0808 == there 08·08, which takes the modulus twice, is 0C
-- Assumes nothing.
use Rattle.std.specs.Prelude.{◌≡◌, ◌/◌, ◌^◌}
use Rattle.algebra.specs.Coded.{mul_byte}
use Rattle.galois.specs.Gf256.{modulus, gf256}
use Rattle.galois.specs.Gf16.{modulus as modulus16, gf16}

abbrev pub Monic : Type 0
Monic = modulus / 2 ^ gf256.degree ≡ 1

abbrev pub Product5783 : Type 0
Product5783 = mul_byte gf256 0x57 0x83 ≡ 0xC1

abbrev pub Product5713 : Type 0
Product5713 = mul_byte gf256 0x57 0x13 ≡ 0xFE

abbrev pub Product0552 : Type 0
Product0552 = mul_byte gf256 0x05 0x52 ≡ 0x01

abbrev pub Monic16 : Type 0
Monic16 = modulus16 / 2 ^ gf16.degree ≡ 1

abbrev pub Product0209 : Type 0
Product0209 = mul_byte gf16 0x02 0x09 ≡ 0x01

abbrev pub Product0808 : Type 0
Product0808 = mul_byte gf16 0x08 0x08 ≡ 0x0C
