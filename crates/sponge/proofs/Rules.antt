-- The tables and the padding are those that the rules of FIPS 202 give, by computing.
-- Assumes nothing.
use Rattle.sponge.proofs.Tests.{numbers, lists}
use Rattle.sponge.specs.Lanes.{listed}
use Rattle.sponge.specs.Tables.{offsets, constants}
use Rattle.sponge.specs.Sponge.{padding}
use Rattle.sponge.specs.Rules.{walk, shifted, register, bits_of, constant_of, bits, byte_of, bytes, from_bits, in_bytes, OffsetsRight, ConstantsRight, PaddingRight}

pub offsets-right : OffsetsRight
unfolding offsets walk
offsets-right = numbers _ _ tt

pub constants-right : ConstantsRight
unfolding constants listed constant_of bits_of register shifted
constants-right = numbers _ _ tt

pub padding-right : PaddingRight
unfolding in_bytes from_bits bytes byte_of bits padding
padding-right = lists _ _ tt
