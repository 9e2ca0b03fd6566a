-- Laws of the fields by their degree: which it is, and what holds of both.
-- Assumes nothing.
use mathlib.Core.Path.{◌≡◌, sym, ap}
use mathlib.Core.Bool.{Bool, true, false, cond}
use Prim.Native.Nat.{ℕ, ◌≤◌}
use borrow.Author.Tests.{ne_eqb}
use lib.Dec.{eqb, lit≤}
use Rattle.algebra.specs.Coded.{Coded}
use Rattle.galois.specs.Gf256.{gf256}
use Rattle.galois.specs.Gf16.{gf16}
use Rattle.galois.specs.Degrees.{field_of, degree_of, size_of}

-- what holds of both fields holds of the field of any degree
pub each_field : (P : Coded → Type 0) → P gf16 → P gf256 → (d : ℕ) → P (field_of d)
unfolding field_of
each_field P small large d = go (eqb d gf16.degree)
  where
    go : (b : Bool) → P (cond b gf16 gf256)
    go true = small
    go false = large

pub field_four : (d : ℕ) → d ≡ gf16.degree → field_of d ≡ gf16
unfolding field_of
field_four d h = rw h

pub field_other : (d : ℕ) → (d ≡ gf16.degree → ⊥) → field_of d ≡ gf256
unfolding field_of
field_other d h = rw (ne_eqb d gf16.degree h)

-- at least two bits, and at most those of a byte
pub degree-least : (d : ℕ) → 2 ≤ degree_of d
unfolding degree_of
degree-least d = each_field (λ C. 2 ≤ C.degree) (lit≤ tt) (lit≤ tt) d

pub degree-most : (d : ℕ) → degree_of d ≤ 8
unfolding degree_of
degree-most d = (field_of d).degree≤8

-- the degree is that of the branch
pub degree-four : (d : ℕ) → d ≡ gf16.degree → gf16.degree ≡ degree_of d
unfolding degree_of
degree-four d h = ap (λ (C : Coded). C.degree) (sym (field_four d h))

pub degree-other : (d : ℕ) → (d ≡ gf16.degree → ⊥) → gf256.degree ≡ degree_of d
unfolding degree_of
degree-other d h = ap (λ (C : Coded). C.degree) (sym (field_other d h))

pub size-four : (d : ℕ) → d ≡ gf16.degree → gf16.base.size ≡ size_of d
unfolding size_of
size-four d h = ap (λ (C : Coded). C.base.size) (sym (field_four d h))

pub size-other : (d : ℕ) → (d ≡ gf16.degree → ⊥) → gf256.base.size ≡ size_of d
unfolding size_of
size-other d h = ap (λ (C : Coded). C.base.size) (sym (field_other d h))

pub size-most : (d : ℕ) → size_of d ≤ 256
unfolding size_of
size-most d = each_field (λ C. C.base.size ≤ 256) (lit≤ tt) (lit≤ tt) d
