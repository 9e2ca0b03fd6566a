-- Request 8 of both alphabets.
-- Assumes nothing.
use Rattle.galois.specs.Degrees.{field_of}
use Rattle.protocol.specs.Binary.{binary}
use Rattle.protocol.specs.Quaternary.{fours256}
use Rattle.theorems.proofs.BinaryLaws.{binary-lawful}
use Rattle.theorems.proofs.QuaternaryLaws.{fours256-lawful}
use Rattle.hiding.specs.Alphabets.{BothAlphabets}
use Rattle.hiding.proofs.MaskLaws.{mask-of}
use Rattle.hiding.proofs.FourMasks.{fours-mask}
use Rattle.hiding.proofs.Hiding.{keeps-over}

pub both_alphabets : BothAlphabets
both_alphabets = record {
  common = keeps-over;
  bits = λ degree. keeps-over (binary (field_of degree)) (binary-lawful (field_of degree)) (mask-of degree);
  fours = keeps-over fours256 fours256-lawful fours-mask;
}
