-- The products of specs/Products, computed.
-- Assumes nothing.
use mathlib.Core.Path.{refl}
use Rattle.algebra.specs.BitField.{computing}
use Rattle.galois.specs.Products.{Monic, Product5783, Product5713, Product0552, Monic16, Product0209, Product0808}

pub monic : Monic
monic = refl

pub product_57_83 : Product5783
unfolding computing
product_57_83 = refl

pub product_57_13 : Product5713
unfolding computing
product_57_13 = refl

pub product_05_52 : Product0552
unfolding computing
product_05_52 = refl

pub monic_16 : Monic16
monic_16 = refl

pub product_02_09 : Product0209
unfolding computing
product_02_09 = refl

pub product_08_08 : Product0808
unfolding computing
product_08_08 = refl
