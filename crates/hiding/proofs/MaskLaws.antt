-- Over a field of bits the powers of α below the degree are a basis, and its own dual, as is computed: the law of
-- masks, for bits.
-- Assumes nothing.
use mathlib.Core.Path.{◌≡◌, refl, sym, ap, ◌∙◌}
use mathlib.Core.Bool.{Bool, true, false, cond}
use Prim.Native.Nat.{ℕ, zero, suc, ◌<◌}
use native.Mathlib.Omega.{arith}
use lib.Dec.{eqb, lit<}
use Rattle.algebra.specs.Ring.{Ring}
use Rattle.algebra.specs.Sum.{sum, power}
use Rattle.algebra.specs.Bits.{Bits, unit, scale, bit, elem}
use Rattle.algebra.specs.BitField.{Passes, computing}
use Rattle.algebra.proofs.SumLaws.{sum_ext}
use Rattle.algebra.proofs.BitFieldLaws.{ring_of, coded}
use Rattle.galois.specs.Gf256.{modulus, passes as passes256, gf256}
use Rattle.galois.specs.Gf16.{modulus as modulus16, passes as passes16, gf16}
use Rattle.galois.specs.Degrees.{field_of}
use Rattle.protocol.specs.Alphabet.{Alphabet, IsSymbol}
use Rattle.protocol.specs.Binary.{binary}
use Rattle.protocol.specs.Forms.{α}
use Rattle.hiding.specs.Masks.{OneMask, mask_sum}
use Rattle.hiding.proofs.BasisLaws.{bit_at, spelled, Dual, spells, tells, mul-scale}

module _ (r : ℕ) (m : Bits r) (p : Passes r m) where
  abbrev A : Alphabet
  A = binary (coded r m p)

  abbrev R : Ring
  R = ring_of r m p

  abbrev pub powers : ℕ → Bits r
  powers i = power (ring_of r m p) (elem r 2) i

  module _ (d : Dual r m p powers powers) where
    bit_symbol : (c : Bool) → IsSymbol A (scale r c (unit r))
    unfolding scale
    bit_symbol true = (1, lit< tt, sym A.K.elem-one)
    bit_symbol false = (0, lit< tt, sym A.K.elem-zero)

    symbol_bit_lem : (x : ℕ) → x < 2 → elem r x ≡ scale r (bit x) (unit r)
    unfolding scale bit
    symbol_bit_lem zero l = A.K.elem-zero
    symbol_bit_lem (suc zero) l = A.K.elem-one
    symbol_bit_lem (suc (suc x)) l = absurd (omega arith)

    module _ (f : ℕ → Bits r) (b : ℕ → Bool) (h : (i : ℕ) → f i ≡ scale r (b i) (unit r)) where
      mask_is : mask_sum A f ≡ sum R r (λ i. scale r (b i) (powers i))
      unfolding α
      mask_is = sum_ext R r _ _ (λ i. ap (λ (z : Bits r). R.mul (powers i) z) (h i) ∙ mul-scale r m p (powers i) (b i))

    pub one-mask : OneMask A
    one-mask = record {
      some-mask = λ a. (
        λ i. scale r (bit_at r (spelled r m p powers a) i) (unit r),
        λ i. bit_symbol (bit_at r (spelled r m p powers a) i),
        mask_is (λ i. scale r (bit_at r (spelled r m p powers a) i) (unit r)) (bit_at r (spelled r m p powers a)) (λ i. refl) ∙ spells r m p powers powers d a,
      );
      same-mask = λ f g j k e i l.
          let hf : (i : ℕ) → f i ≡ scale r (bit (j i).0) (unit r) = λ i. (j i).2 ∙ symbol_bit_lem (j i).0 (j i).1 in
          let hg : (i : ℕ) → g i ≡ scale r (bit (k i).0) (unit r) = λ i. (k i).2 ∙ symbol_bit_lem (k i).0 (k i).1 in
          hf i
          ∙ ap (λ (c : Bool). scale r c (unit r))
          (tells r m p powers powers d (λ i. bit (j i).0) (λ i. bit (k i).0) (sym (mask_is f (λ i. bit (j i).0) hf) ∙ e ∙ mask_is g (λ i. bit (k i).0) hg) i l)
          ∙ sym (hg i);
    }

dual256 : Dual 8 (elem 8 modulus) passes256 (powers 8 (elem 8 modulus) passes256) (powers 8 (elem 8 modulus) passes256)
unfolding computing power bit_at spelled
dual256 = record { there? = tt; back? = tt }

dual16 : Dual 4 (elem 4 modulus16) passes16 (powers 4 (elem 4 modulus16) passes16) (powers 4 (elem 4 modulus16) passes16)
unfolding computing power bit_at spelled
dual16 = record { there? = tt; back? = tt }

-- bits over the field of every degree
pub mask-of : (d : ℕ) → OneMask (binary (field_of d))
unfolding field_of
mask-of d = go (eqb d gf16.degree)
  where
    go : (b : Bool) → OneMask (binary (cond b gf16 gf256))
    go true = one-mask 4 (elem 4 modulus16) passes16 dual16
    go false = one-mask 8 (elem 8 modulus) passes256 dual256
