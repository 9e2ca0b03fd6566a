-- Sums and bilinear forms in a ring.
-- Assumes nothing.
use mathlib.Core.Path.{◌≡◌, refl, sym, ap, ap₂, ◌∙◌}
use mathlib.Core.Logic.{◌≢◌}
use mathlib.Core.Bool.{Bool, true, false, cond}
use Prim.Native.Nat.{ℕ, zero, suc, ◌+◌, ◌<◌}
use native.Mathlib.Nat.{add-zero, add-suc}
use native.Mathlib.Decide.{ℕ_discrete}
use native.Mathlib.Omega.{arith}
use lib.Dec.{eqb, eqb→eq}
use Rattle.algebra.specs.Ring.{Ring}
use Rattle.algebra.proofs.RingLaws.{ring}
use Rattle.algebra.specs.Sum.{sum, form}
use Rattle.algebra.proofs.Solver.{ring_by, ◌:+◌, ◌:*◌, ◌:=◌}

module _ (R : Ring) where
  open R use {F, 𝟘, 𝟙, add as ◌⊕◌, mul as ◌⊗◌}

  infixl 65 ◌⊕◌
  infixl 70 ◌⊗◌
  pub sum_congr : (n : ℕ) (f g : ℕ → F) → ((i : ℕ) → i < n → f i ≡ g i) → sum R n f ≡ sum R n g
  sum_congr zero f g h = refl
  sum_congr (suc n) f g h = rw (h n (omega arith), sum_congr n f g (λ i l. h i (omega arith)), sum)

  -- the same, for all i: no bound to handle
  pub sum_ext : (n : ℕ) (f g : ℕ → F) → ((i : ℕ) → f i ≡ g i) → sum R n f ≡ sum R n g
  sum_ext n f g h = sum_congr n f g (λ i l. h i)

  pub sum-zero : (n : ℕ) → sum R n (λ i. 𝟘) ≡ 𝟘
  sum-zero zero = refl
  sum-zero (suc n) = rw (sum-zero n, sum) (simp ring)

  pub sum-add : (n : ℕ) (f g : ℕ → F) → sum R n (λ i. f i ⊕ g i) ≡ sum R n f ⊕ sum R n g
  sum-add zero f g = simp ring
  sum-add (suc n) f g = rw (sum-add n f g, sum) (simp ring)

  pub sum-mul : (n : ℕ) (c : F) (f : ℕ → F) → sum R n (λ i. c ⊗ f i) ≡ c ⊗ sum R n f
  sum-mul zero c f = simp ring
  sum-mul (suc n) c f = rw (sum-mul n c f, sum) (simp ring)

  pub sum-swap : (n m : ℕ) (f : ℕ → ℕ → F) → sum R n (λ i. sum R m (λ j. f i j)) ≡ sum R m (λ j. sum R n (λ i. f i j))
  sum-swap zero m f = sym (sum-zero m)
  sum-swap (suc n) m f = rw (sum-swap n m f, sum) (sym (sum-add m (λ j. sum R n (λ i. f i j)) (f n)))

  pub sum-split : (n m : ℕ) (f : ℕ → F) → sum R (n + m) f ≡ sum R n f ⊕ sum R m (λ i. f (n + i))
  sum-split n zero f = rw (add-zero n) (sym (R.add-zero (sum R n f)))
  sum-split n (suc m) f = rw (add-suc n m, sum) (ap (λ w. w ⊕ f (n + m)) (sum-split n m f) ∙ R.add_assoc _ _ _)

  pub sum-front : (n : ℕ) (f : ℕ → F) → sum R (suc n) f ≡ f 0 ⊕ sum R n (λ i. f (suc i))
  sum-front zero f = R.add_comm 𝟘 (f 0)
  sum-front (suc n) f = ap (λ z. z ⊕ f (suc n)) (sum-front n f) ∙ R.add_assoc (f 0) (sum R n (λ i. f (suc i))) (f (suc n))

  -- all terms but one are zero
  pub sum_one : (n d : ℕ) (f : ℕ → F) → d < n → ((i : ℕ) → i ≢ d → f i ≡ 𝟘) → sum R n f ≡ f d
  sum_one zero d f l h = absurd (omega arith)
  sum_one (suc n) d f l h = go (ℕ_discrete n d) (sum_one n d f)
    where
      go : Dec (n ≡ d) → (d < n → ((i : ℕ) → i ≢ d → f i ≡ 𝟘) → sum R n f ≡ f d) → sum R n f ⊕ f n ≡ f d
      go (yes e) ih =
          let zeros : sum R n f ≡ 𝟘 = sum_congr n f (λ i. 𝟘) (λ i k. h i (omega arith)) ∙ sum-zero n in
          rw (zeros, e) (simp ring)
      go (no e) ih = rw (ih (omega arith) h, h n e) (simp ring)

  -- Σ_{j<n, j≠d} (j + d) l_j, where at names the field's elements by numbers
  pub sum_punctured : (n d : ℕ) (at l : ℕ → F)
      → sum R n (λ j. cond (eqb j d) 𝟘 ((at j ⊕ at d) ⊗ l j)) ≡ sum R n (λ j. at j ⊗ l j) ⊕ at d ⊗ sum R n l
  sum_punctured n d at l =
      sum_ext n _ (λ j. at j ⊗ l j ⊕ at d ⊗ l j) (λ j. term j (eqb j d) refl)
      ∙ sum-add n (λ j. at j ⊗ l j) (λ j. at d ⊗ l j) ∙ ap (λ w. sum R n (λ j. at j ⊗ l j) ⊕ w) (sum-mul n (at d) l)
    where
      term : (j : ℕ) (b : Bool) → eqb j d ≡ b → cond b 𝟘 ((at j ⊕ at d) ⊗ l j) ≡ at j ⊗ l j ⊕ at d ⊗ l j
      term j true e = rw (eqb→eq j d (rw e tt)) (simp ring)
      term j false e = simp ring

  pub form-add-left : (n : ℕ) (A : ℕ → ℕ → F) (x x' y : ℕ → F) → form R n A (λ i. x i ⊕ x' i) y ≡ form R n A x y ⊕ form R n A x' y
  unfolding form
  form-add-left n A x x' y =
      sum_ext n _ _ (λ i. sum_ext n _ (λ j. x i ⊗ A i j ⊗ y j ⊕ x' i ⊗ A i j ⊗ y j) (λ j. simp ring) ∙ sum-add n _ _)
      ∙ sum-add n (λ i. sum R n (λ j. x i ⊗ A i j ⊗ y j)) (λ i. sum R n (λ j. x' i ⊗ A i j ⊗ y j))

  pub form-mul-left : (n : ℕ) (A : ℕ → ℕ → F) (c : F) (x y : ℕ → F) → form R n A (λ i. c ⊗ x i) y ≡ c ⊗ form R n A x y
  unfolding form
  form-mul-left n A c x y =
      sum_ext n _ _ (λ i. sum_ext n _ (λ j. c ⊗ (x i ⊗ A i j ⊗ y j)) (λ j. simp ring) ∙ sum-mul n c (λ j. x i ⊗ A i j ⊗ y j))
      ∙ sum-mul n c (λ i. sum R n (λ j. x i ⊗ A i j ⊗ y j))

  -- the form of the transposed matrix, with the vectors changed over
  pub form_flip : (n : ℕ) (A : ℕ → ℕ → F) (x y : ℕ → F) → form R n A x y ≡ form R n (λ i j. A j i) y x
  unfolding form
  form_flip n A x y = sum-swap n n _ ∙ sum_ext n _ _ (λ j. sum_ext n _ _ (λ i. simp ring))

  pub form-add-right : (n : ℕ) (A : ℕ → ℕ → F) (x y y' : ℕ → F) → form R n A x (λ i. y i ⊕ y' i) ≡ form R n A x y ⊕ form R n A x y'
  form-add-right n A x y y' = form_flip n A x _ ∙ form-add-left n _ y y' x ∙ ap₂ ◌⊕◌ (sym (form_flip n A x y)) (sym (form_flip n A x y'))

  pub form-mul-right : (n : ℕ) (A : ℕ → ℕ → F) (c : F) (x y : ℕ → F) → form R n A x (λ i. c ⊗ y i) ≡ c ⊗ form R n A x y
  form-mul-right n A c x y = form_flip n A x _ ∙ form-mul-left n _ c y x ∙ ap (λ w. c ⊗ w) (sym (form_flip n A x y))

  -- (v + δx)ᵀ A (v + δx) as a polynomial in δ
  pub form-quad : (n : ℕ) (A : ℕ → ℕ → F) (v x : ℕ → F) (δ : F) → form R n A (λ i. v i ⊕ δ ⊗ x i) (λ i. v i ⊕ δ ⊗ x i)
      ≡ form R n A v v ⊕ δ ⊗ (form R n A v x ⊕ form R n A x v) ⊕ δ ⊗ δ ⊗ form R n A x x
  form-quad n A v x δ =
      form-add-left n A v (λ i. δ ⊗ x i) _
      ∙ rw (form-mul-left n A δ x, form-add-right n A v v (λ i. δ ⊗ x i), form-add-right n A x v (λ i. δ ⊗ x i), form-mul-right n A δ v x, form-mul-right n A δ x x)
      (ring_by R 5 (λ d a b c e. a :+ d :* b :+ d :* (c :+ d :* e) := a :+ d :* (b :+ c) :+ d :* d :* e) refl δ (form R n A v v) (form R n A v x) (form R n A x v) (form R n A x x))
