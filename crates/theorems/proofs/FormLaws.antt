-- Laws of the forms of a key, the hash, the mask and the batching: each depends only on the coordinates that it reads,
-- and is linear or quadratic in them.
-- Assumes nothing.
use mathlib.Core.Path.{◌≡◌, refl, ap, ap₂, ◌∙◌}
use mathlib.Core.List.{List}
use Prim.Native.Nat.{ℕ, ◌+◌, ◌<◌}
use native.Mathlib.Omega.{arith}
use Rattle.algebra.specs.Sum.{sum, form, power}
use Rattle.algebra.proofs.RingLaws.{ring}
use Rattle.algebra.proofs.Solver.{◌:+◌, ◌:*◌, ◌:=◌, ring_by}
use Rattle.algebra.proofs.SumLaws.{sum_congr, sum_ext, sum-zero, sum-add, sum-mul, form-quad}
use Rattle.protocol.specs.Alphabet.{Alphabet}
use Rattle.protocol.specs.Shape.{Shape, mask_at, k_of, l_of}
use Rattle.protocol.specs.Key.{a_sym, b_sym}
use Rattle.protocol.specs.Forms.{α, quad, lin, y_of, middle, error, h, hash, mask_of, χAt, batch}
use Rattle.theorems.proofs.ListLaws.{row-end}

module _ (A : Alphabet) (s : Shape) where
  open A use {K, masks}
  open K use {base}
  open base use {R}
  open R use {F, 𝟘, add as ◌⊕◌, mul as ◌⊗◌}

  infixl 65 ◌⊕◌
  infixl 70 ◌⊗◌
  pub hash_congr : (H' : List ℕ) (ρ : ℕ) (f g : ℕ → F) → ((c : ℕ) → c < l_of A s → f c ≡ g c) → hash A s H' ρ f ≡ hash A s H' ρ g
  unfolding hash
  hash_congr H' ρ f g e = sum_congr R (l_of A s) _ _ (λ c l. ap (λ z. h A s H' ρ c ⊗ z) (e c l))

  -- the mask coordinates of a repetition are among the first k
  pub mask_in : (e i : ℕ) → e < s.τ → i < masks → mask_at A s e + i < k_of A s
  unfolding mask_at k_of
  mask_in e i le l = omega (arith, row-end e s.τ masks le)

  pub mask_congr : (e : ℕ) (f g : ℕ → F) → e < s.τ → ((c : ℕ) → c < l_of A s → f c ≡ g c) → mask_of A s e f ≡ mask_of A s e g
  unfolding mask_of l_of
  mask_congr e f g le k = sum_congr R masks _ _ (λ i l. ap (λ z. power R (α A) i ⊗ z) (k (mask_at A s e + i) (omega (arith, mask_in e i le l))))

  pub quad_congr : (key : List ℕ) (i : ℕ) (f f' g g' : ℕ → F) → ((c : ℕ) → c < s.n → f c ≡ f' c) → ((c : ℕ) → c < s.n → g c ≡ g' c) → quad A s key i f g ≡ quad A s key i f' g'
  unfolding quad form
  quad_congr key i f f' g g' e k = sum_congr R s.n _ _ (λ ρ l. sum_congr R s.n _ _ (λ c m. ap₂ (λ y z. y ⊗ a_sym A s key i ρ c ⊗ z) (e ρ l) (k c m)))

  pub lin_congr : (key : List ℕ) (i : ℕ) (f g : ℕ → F) → ((c : ℕ) → c < s.n → f c ≡ g c) → lin A s key i f ≡ lin A s key i g
  unfolding lin
  lin_congr key i f g e = sum_congr R s.n _ _ (λ c l. ap (λ z. b_sym A s key i c ⊗ z) (e c l))

  pub batch_congr : (χ : List ℕ) (e : ℕ) (f g : ℕ → F) → ((i : ℕ) → i < s.m → f i ≡ g i) → batch A s χ e f ≡ batch A s χ e g
  unfolding batch
  batch_congr χ e f g k = sum_congr R s.m _ _ (λ i l. ap (λ z. χAt A s χ e i ⊗ z) (k i l))

  pub batch-zero : (χ : List ℕ) (e : ℕ) → batch A s χ e (λ i. 𝟘) ≡ 𝟘
  unfolding batch
  batch-zero χ e = sum_congr R s.m _ (λ i. 𝟘) (λ i l. simp ring) ∙ sum-zero R s.m

  -- ---- at f + x·g

  -- a sum of a ⊗ f is linear in f
  line-sum : (n : ℕ) (a f g : ℕ → F) (x : F) → sum R n (λ i. a i ⊗ (f i ⊕ x ⊗ g i)) ≡ sum R n (λ i. a i ⊗ f i) ⊕ x ⊗ sum R n (λ i. a i ⊗ g i)
  line-sum n a f g x =
      sum_ext R n _ (λ i. a i ⊗ f i ⊕ x ⊗ (a i ⊗ g i)) (λ i. simp ring)
      ∙ sum-add R n (λ i. a i ⊗ f i) (λ i. x ⊗ (a i ⊗ g i))
      ∙ ap (λ z. sum R n (λ i. a i ⊗ f i) ⊕ z) (sum-mul R n x (λ i. a i ⊗ g i))

  pub hash-line : (H' : List ℕ) (ρ : ℕ) (f g : ℕ → F) (x : F) → hash A s H' ρ (λ c. f c ⊕ x ⊗ g c) ≡ hash A s H' ρ f ⊕ x ⊗ hash A s H' ρ g
  unfolding hash
  hash-line H' ρ f g x = line-sum (l_of A s) (h A s H' ρ) f g x

  pub mask-line : (e : ℕ) (f g : ℕ → F) (x : F) → mask_of A s e (λ c. f c ⊕ x ⊗ g c) ≡ mask_of A s e f ⊕ x ⊗ mask_of A s e g
  unfolding mask_of
  mask-line e f g x = line-sum masks (power R (α A)) (λ i. f (mask_at A s e + i)) (λ i. g (mask_at A s e + i)) x

  pub lin-line : (key : List ℕ) (i : ℕ) (f g : ℕ → F) (x : F) → lin A s key i (λ c. f c ⊕ x ⊗ g c) ≡ lin A s key i f ⊕ x ⊗ lin A s key i g
  unfolding lin
  lin-line key i f g x = line-sum s.n _ f g x

  pub quad-line : (key : List ℕ) (i : ℕ) (f g : ℕ → F) (x : F)
      → quad A s key i (λ c. f c ⊕ x ⊗ g c) (λ c. f c ⊕ x ⊗ g c) ≡ quad A s key i f f ⊕ x ⊗ (quad A s key i f g ⊕ quad A s key i g f) ⊕ x ⊗ x ⊗ quad A s key i g g
  unfolding quad
  quad-line key i f g x = form-quad R s.n _ f g x

  -- an equation at f + X·g
  pub expand : (key : List ℕ) (i : ℕ) (f g : ℕ → F) (x : F)
      → quad A s key i (λ c. f c ⊕ x ⊗ g c) (λ c. f c ⊕ x ⊗ g c) ⊕ x ⊗ lin A s key i (λ c. f c ⊕ x ⊗ g c) ⊕ y_of A s key i ⊗ (x ⊗ x)
      ≡ quad A s key i f f ⊕ middle A s key i f g ⊗ x ⊕ error A s key i g ⊗ (x ⊗ x)
  unfolding middle error
  expand key i f g x =
      rw (quad-line key i f g x, lin-line key i f g x)
      (ring_by R 8 (λ x a b c d l k y. a :+ x :* (b :+ c) :+ x :* x :* d :+ x :* (l :+ x :* k) :+ y :* (x :* x) := a :+ (b :+ c :+ l) :* x :+ (d :+ k :+ y) :* (x :* x)) refl
      x (quad A s key i f f) (quad A s key i f g) (quad A s key i g f) (quad A s key i g g) (lin A s key i f) (lin A s key i g) (y_of A s key i))

  three : (n : ℕ) (a f g h : ℕ → F) (x : F)
      → sum R n (λ i. a i ⊗ (f i ⊕ g i ⊗ x ⊕ h i ⊗ (x ⊗ x))) ≡ sum R n (λ i. a i ⊗ f i) ⊕ sum R n (λ i. a i ⊗ g i) ⊗ x ⊕ sum R n (λ i. a i ⊗ h i) ⊗ (x ⊗ x)
  three n a f g h x =
      sum_ext R n _ (λ i. a i ⊗ (f i ⊕ x ⊗ (g i ⊕ x ⊗ h i))) (λ i. simp ring)
      ∙ line-sum n a f (λ i. g i ⊕ x ⊗ h i) x
      ∙ ap (λ z. sum R n (λ i. a i ⊗ f i) ⊕ x ⊗ z) (line-sum n a g h x)
      ∙ ring_by R 4 (λ x a b c. a :+ x :* (b :+ x :* c) := a :+ b :* x :+ c :* (x :* x)) refl x _ _ _

  pub batch-three : (χ : List ℕ) (e : ℕ) (f g h : ℕ → F) (x : F)
      → batch A s χ e (λ i. f i ⊕ g i ⊗ x ⊕ h i ⊗ (x ⊗ x)) ≡ batch A s χ e f ⊕ batch A s χ e g ⊗ x ⊕ batch A s χ e h ⊗ (x ⊗ x)
  unfolding batch
  batch-three χ e f g h x = three s.m (χAt A s χ e) f g h x
