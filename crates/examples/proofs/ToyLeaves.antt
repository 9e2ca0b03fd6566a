-- The toy's leaves from leaf 4 on are 0, so that u and v, sums over 256 leaves, are sums over the first four.
-- The checker computes with these: 4 terms for 256.
--   toy == the sizes of the toy's keys;  R, F == the ring of GF(256) and its elements
--   u₄, v₄ == the sums over four leaves
-- Assumes nothing.
use mathlib.Core.Path.{◌≡◌, refl, ap, ◌∙◌}
use mathlib.Core.Logic.{◌≢◌}
use mathlib.Core.Bool.{true≢false}
use mathlib.Core.List.{List, [], ◌∷◌}
use Prim.Native.Nat.{ℕ, zero, suc, ◌+◌, ◌*◌, ◌/◌}
use native.Mathlib.Nat.{zero-div, zero-mod}
use native.Mathlib.Omega.{arith}
use lib.ListN.{get_or, take, drop, replicate}
use Rattle.algebra.specs.Ring.{Ring}
use Rattle.algebra.specs.Sum.{sum}
use Rattle.algebra.proofs.RingLaws.{mul-zero}
use Rattle.algebra.proofs.SumLaws.{sum_ext, sum-zero, sum-split}
use Rattle.protocol.specs.Lists.{part, block_at}
use Rattle.protocol.specs.Strings.{bit}
use Rattle.protocol.specs.Alphabet.{sym}
use Rattle.protocol.specs.Shape.{Shape}
use Rattle.protocol.specs.Leaves.{leaf_at}
use Rattle.protocol.specs.Prover.{u, v}
use lib.Seq.{get_or-drop}
use Rattle.theorems.proofs.ListLaws.{drop-append}
use Rattle.examples.specs.Toy.{A, four_leaves, leaves}
use Rattle.examples.proofs.ToyComputing.{computing}

abbrev pub R : Ring
R = A.K.base.R

abbrev pub F : Type 0
F = R.F

abbrev pub toy : Shape
toy = record { n = 2; m = 1; τ = 1; t = 1 }

pub one_not_zero : R.𝟙 ≢ R.𝟘
unfolding computing
one_not_zero e = true≢false (ap (λ (b : F). b.0) e)

zero-replicate : (n b : ℕ) → ◌≡◌ {A = ℕ} (get_or (replicate n 0) b 0) 0
zero-replicate zero b = refl
zero-replicate (suc n) zero = refl
zero-replicate (suc n) (suc b) = zero-replicate n b

zero-take : (w : ℕ) (z : List ℕ) → ((b : ℕ) → get_or z b 0 ≡ 0) → (b : ℕ) → get_or (take w z) b 0 ≡ 0
zero-take zero z h b = refl
zero-take (suc w) [] h b = refl
zero-take (suc w) (a ∷ z) h zero = h 0
zero-take (suc w) (a ∷ z) h (suc b) = zero-take w z (λ i. h (suc i)) b

zero-byte : (i b : ℕ) → get_or (leaf_at 256 2 leaves 0 (4 + i)) b 0 ≡ 0
unfolding leaf_at block_at part leaves
zero-byte i b =
    let e : (0 * 256 + (4 + i)) * 2 ≡ 8 + i * 2 = omega arith in
    ap (λ k. get_or (take 2 (drop k leaves)) b 0) e ∙ ap (λ z. get_or (take 2 z) b 0) (drop-append four_leaves (replicate 504 0) 8 (i * 2) refl)
    ∙ zero-take 2 (drop (i * 2) (replicate 504 0)) (λ a. get_or-drop (i * 2) (replicate 504 0) a 0 ∙ zero-replicate 504 (i * 2 + a)) b

zero-leaf : (i c : ℕ) → sym A (leaf_at 256 2 leaves 0 (4 + i)) c ≡ R.𝟘
unfolding sym bit
zero-leaf i c = rw (zero-byte i (c / 8), zero-div, zero-mod) A.K.elem-zero

sum_first : (n m : ℕ) (f : ℕ → F) → ((i : ℕ) → f (n + i) ≡ R.𝟘) → sum R (n + m) f ≡ sum R n f
sum_first n m f h = sum-split R n m f ∙ ap (R.add (sum R n f)) (sum_ext R m (λ i. f (n + i)) (λ i. R.𝟘) h ∙ sum-zero R m) ∙ R.add-zero (sum R n f)

abbrev pub u₄ : ℕ → F
u₄ c = sum R 4 (λ j. sym A (leaf_at 256 2 leaves 0 j) c)

abbrev pub v₄ : ℕ → F
v₄ c = sum R 4 (λ j. R.mul (A.K.elem j) (sym A (leaf_at 256 2 leaves 0 j) c))

u-at : (c : ℕ) → u A toy leaves 0 c ≡ u₄ c
unfolding computing
u-at c = sum_first 4 252 (λ j. sym A (leaf_at 256 2 leaves 0 j) c) (λ i. zero-leaf i c)

v-at : (c : ℕ) → v A toy leaves 0 c ≡ v₄ c
unfolding computing
v-at c =
    sum_first 4 252 (λ j. R.mul (A.K.elem j) (sym A (leaf_at 256 2 leaves 0 j) c))
    (λ i. ap (R.mul (A.K.elem (4 + i))) (zero-leaf i c) ∙ mul-zero R (A.K.elem (4 + i)))

pub u_few : u A toy leaves 0 ≡ u₄
u_few = λ i c. u-at c i

pub v_few : v A toy leaves 0 ≡ v₄
v_few = λ i c. v-at c i
