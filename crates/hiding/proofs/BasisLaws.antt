-- Vectors of bits with a dual are a basis: each vector is the sum of some of them, in one way. It is enough to compute
-- this at the single bits.
--   bit_at n v i == bit i of v;  whole n b == the vector of the bits b;  spelled β v == Σ_{i<r} v_i·β_i
--   Dual β γ == spelled β and spelled γ undo one another
-- Assumes nothing.
use mathlib.Core.Path.{◌≡◌, refl, sym, ap, ◌∙◌}
use mathlib.Core.Bool.{Bool, true, false}
use Prim.Native.Nat.{ℕ, zero, suc, ◌<◌}
use native.Mathlib.Omega.{arith}
use lib.Dec.{T}
use Rattle.algebra.specs.Ring.{Ring}
use Rattle.algebra.specs.Sum.{sum}
use Rattle.algebra.specs.Bits.{Bits, plus, unit, add, scale, same, on_basis}
use Rattle.algebra.specs.BitField.{Passes}
use Rattle.algebra.proofs.BitsLaws.{same_eq}
use Rattle.algebra.proofs.LinearLaws.{Linear, scale-plus, on_basis_lem, linear_ext}
use Rattle.algebra.proofs.RingLaws.{mul-zero}
use Rattle.algebra.proofs.SumLaws.{sum_congr, sum_ext, sum-add}
use Rattle.algebra.proofs.BitFieldLaws.{ring_of}

unfoldable pub bit_at : (n : ℕ) → Bits n → ℕ → Bool
bit_at zero v i = false
bit_at (suc n) v zero = v.0
bit_at (suc n) v (suc i) = bit_at n v.1 i

pub whole : (n : ℕ) → (ℕ → Bool) → Bits n
whole zero b = tt
whole (suc n) b = (b 0, whole n (λ i. b (suc i)))

pub at-whole : (n : ℕ) (b : ℕ → Bool) (i : ℕ) → i < n → bit_at n (whole n b) i ≡ b i
unfolding bit_at whole
at-whole zero b i l = absurd (omega arith)
at-whole (suc n) b zero l = refl
at-whole (suc n) b (suc i) l = at-whole n (λ i. b (suc i)) i (omega arith)

at-add : (n : ℕ) (a b : Bits n) (i : ℕ) → bit_at n (add n a b) i ≡ plus (bit_at n a i) (bit_at n b i)
unfolding bit_at add
at-add zero a b i = refl
at-add (suc n) a b zero = refl
at-add (suc n) a b (suc i) = at-add n a.1 b.1 i

module _ (r : ℕ) (m : Bits r) (p : Passes r m) where
  open ring_of r m p use {mul as ◌⊗◌}

  infixl 70 ◌⊗◌
  abbrev pub R : Ring
  R = ring_of r m p

  unfoldable pub spelled : (ℕ → Bits r) → Bits r → Bits r
  spelled β v = sum R r (λ i. scale r (bit_at r v i) (β i))

  abbrev pub Undone : (ℕ → Bits r) → (ℕ → Bits r) → Type 0
  Undone β γ = T (on_basis r (λ v. same r (spelled β (spelled γ v)) v))

  pub record Dual (β γ : ℕ → Bits r) : Type 0 where
    pub there? : Undone β γ
    pub back? : Undone γ β

  spelled-linear : (β : ℕ → Bits r) → Linear r r (spelled β)
  unfolding spelled
  spelled-linear β a b = sum_ext R r _ _ (λ i. ap (λ (c : Bool). scale r c (β i)) (at-add r a b i) ∙ scale-plus r (bit_at r a i) (bit_at r b i) (β i)) ∙ sum-add R r _ _

  pub undone : (β γ : ℕ → Bits r) → Undone β γ → (v : Bits r) → spelled β (spelled γ v) ≡ v
  undone β γ t v =
      linear_ext r r (λ x. spelled β (spelled γ x)) (λ x. x) (λ x y. ap (spelled β) (spelled-linear γ x y) ∙ spelled-linear β (spelled γ x) (spelled γ y)) (λ x y. refl)
      (on_basis_lem r (λ v. same r (spelled β (spelled γ v)) v) (λ v. spelled β (spelled γ v) ≡ v) (λ v. same_eq r (spelled β (spelled γ v)) v) t) v

  -- sums of bits times β: each element is one, and the sum tells the bits
  module _ (β γ : ℕ → Bits r) (d : Dual β γ) where
    pub spells : (a : Bits r) → sum R r (λ i. scale r (bit_at r (spelled γ a) i) (β i)) ≡ a
    unfolding spelled
    spells a = undone β γ d.there? a

    sum_is : (b : ℕ → Bool) → sum R r (λ i. scale r (b i) (β i)) ≡ spelled β (whole r b)
    unfolding spelled
    sum_is b = sum_congr R r _ _ (λ i l. ap (λ (c : Bool). scale r c (β i)) (sym (at-whole r b i l)))

    pub tells : (a b : ℕ → Bool) → sum R r (λ i. scale r (a i) (β i)) ≡ sum R r (λ i. scale r (b i) (β i)) → (i : ℕ) → i < r → a i ≡ b i
    tells a b e i l =
        sym (at-whole r a i l)
        ∙ ap (λ (v : Bits r). bit_at r v i) (sym (undone γ β d.back? (whole r a)) ∙ ap (spelled γ) (sym (sum_is a) ∙ e ∙ sum_is b) ∙ undone γ β d.back? (whole r b))
        ∙ at-whole r b i l

  -- a bit of K, times an element
  pub mul-scale : (a : Bits r) (c : Bool) → a ⊗ scale r c (unit r) ≡ scale r c a
  unfolding scale
  mul-scale a true = R.mul-one a
  mul-scale a false = mul-zero R a
