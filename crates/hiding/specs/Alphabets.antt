-- Request 8 "is shown for both alphabets from common lemmas" (request 11): one statement of any alphabet that is lawful
-- and has OneMask, and its instances.
--   bits degree == over bits in the field of every degree;  fours == over the four symbols, in GF(256)
-- Assumes nothing.
use Rattle.std.specs.Prelude.{ℕ}
use Rattle.galois.specs.Degrees.{field_of}
use Rattle.protocol.specs.Binary.{binary}
use Rattle.protocol.specs.Quaternary.{fours256}
use Rattle.hiding.specs.Hiding.{KeepsOver, Common}

pub record BothAlphabets : Type 1 where
  pub common : Common
  pub bits : (degree : ℕ) → KeepsOver (binary (field_of degree))
  pub fours : KeepsOver fours256
