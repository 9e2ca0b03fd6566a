-- All choices of hidden leaves under one mask, counted by computing; and hiding over GF(4), with masks of their own.
-- Assumes nothing.
use mathlib.Core.Path.{refl}
use Rattle.algebra.specs.Bits.{elem}
use Rattle.algebra.specs.BitField.{computing as bits}
use Rattle.algebra.specs.Sum.{power}
use Rattle.protocol.proofs.Computing.{computing}
use Rattle.theorems.proofs.BinaryLaws.{binary-lawful}
use Rattle.hiding.specs.Hidden.{tree_with, with_hidden}
use Rattle.examples.specs.SharedMask.{modulus, passes, gf4, shared_qs0, shared_qs1, shared_proof, key, leaves, H', χ, proof, SharedMask, TinyHiding}
use Rattle.hiding.proofs.BasisLaws.{bit_at, spelled, Dual}
use Rattle.hiding.proofs.MaskLaws.{powers, one-mask}
use Rattle.hiding.proofs.Choice.{hidden-leaves}

pub shared-mask : SharedMask
unfolding computing tree_with with_hidden shared_qs0 shared_qs1 shared_proof key leaves H' χ proof
shared-mask = record { proof_is = refl; own = refl; other = refl; other₀ = refl }

dual4 : Dual 2 (elem 2 modulus) passes (powers 2 (elem 2 modulus) passes) (powers 2 (elem 2 modulus) passes)
unfolding bits power bit_at spelled
dual4 = record { there? = tt; back? = tt }

pub tiny_hiding : TinyHiding
tiny_hiding = hidden-leaves _ (binary-lawful gf4) (one-mask 2 (elem 2 modulus) passes dual4)
