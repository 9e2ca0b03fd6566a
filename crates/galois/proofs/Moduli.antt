-- The modulus of GF(256) passes the tests of a field, computed.
-- Assumes nothing.
use Rattle.algebra.specs.Bits.{elem}
use Rattle.algebra.specs.BitField.{Passes, computing}
use Rattle.galois.specs.Gf256.{modulus}

pub modulus_passes : Passes 8 (elem 8 modulus)
unfolding computing
modulus_passes = record { least? = tt; most? = tt; commutes? = tt; associates? = tt; one? = tt; inverts? = tt }
