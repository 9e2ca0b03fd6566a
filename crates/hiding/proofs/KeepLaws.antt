-- A proof with another solution and shifted sums has the same sections exactly if every repetition is shifted alike,
-- by a shift that fits.
--   first == the shift of the witness;  moved e == v_e as it must become, on the witness's coordinates
--   mask e == the mask that the shift must have in e
-- Assumes nothing.
use mathlib.Core.Path.{◌≡◌, refl, sym, ap, ap₂, ◌∙◌}
use mathlib.Core.List.{List}
use Prim.Native.Nat.{ℕ, ◌<◌}
use lib.ListN.{get_or}
use Rattle.algebra.proofs.RingLaws.{ring, mul-zero}
use Rattle.algebra.proofs.Solver.{combine₁}
use Rattle.protocol.specs.Alphabet.{Alphabet, sym as symbol, Lawful}
use Rattle.protocol.specs.Shape.{Shape, l_of}
use Rattle.protocol.specs.Forms.{quad, lin, y_of, middle, error, hash, mask_of, batch}
use Rattle.protocol.specs.Prover.{u, v, correction, d_of, a₀, a₁, qs0, qs1, sections_of}
use Rattle.hiding.specs.Masks.{OneMask}
use Rattle.theorems.proofs.FormLaws.{hash_congr, hash-line, mask_congr, mask-line, quad_congr, lin_congr, batch_congr, batch-zero, batch-three, expand}
use Rattle.hiding.proofs.AddLaws.{hash-add, mask-add, middle_congr}
use Rattle.theorems.proofs.HonestLaws.{n_below}
use Rattle.hiding.proofs.ShiftLaws.{Fits}
use Rattle.hiding.proofs.SameProofLaws.{same-C, same_d, same_ũ, same_Ṽ, same-QS0, same-QS1, C-same, d_same, ũ_same, QS1-same}

module _ (A : Alphabet) (s : Shape) (key χ : List ℕ) (e : ℕ) where
  open A use {K}
  open K use {base}
  open base use {R}
  open R use {F, 𝟘, 𝟙, add as ◌⊕◌, mul as ◌⊗◌}

  infixl 65 ◌⊕◌
  infixl 70 ◌⊗◌
  -- the batched equations at f + d·g, where g solves them
  module _ (d : F) where
    abbrev at : (ℕ → F) → F
    at w = batch A s χ e (λ i. quad A s key i w w ⊕ d ⊗ lin A s key i w ⊕ y_of A s key i ⊗ (d ⊗ d))

    half : (f g : ℕ → F) → ((i : ℕ) → i < s.m → error A s key i g ≡ 𝟘)
        → at (λ c. f c ⊕ d ⊗ g c) ≡ batch A s χ e (λ i. quad A s key i f f) ⊕ batch A s χ e (λ i. middle A s key i f g) ⊗ d
    half f g z =
        batch_congr A s χ e _ _ (λ i l. expand A s key i f g d)
        ∙ batch-three A s χ e (λ i. quad A s key i f f) (λ i. middle A s key i f g) (λ i. error A s key i g) d
        ∙ ap (λ w. batch A s χ e (λ i. quad A s key i f f) ⊕ batch A s χ e (λ i. middle A s key i f g) ⊗ d ⊕ w ⊗ (d ⊗ d)) (batch_congr A s χ e _ (λ i. 𝟘) z ∙ batch-zero A s χ e)
        ∙ gone _ _ d
      where
        gone : (a b d : F) → a ⊕ b ⊗ d ⊕ 𝟘 ⊗ (d ⊗ d) ≡ a ⊕ b ⊗ d
        gone a b d = simp ring

    pub product-same : (f g f' g' : ℕ → F) → ((i : ℕ) → i < s.m → error A s key i g ≡ 𝟘) → ((i : ℕ) → i < s.m → error A s key i g' ≡ 𝟘)
        → ((c : ℕ) → c < s.n → f c ⊕ d ⊗ g c ≡ f' c ⊕ d ⊗ g' c)
        → batch A s χ e (λ i. quad A s key i f f) ⊕ batch A s χ e (λ i. middle A s key i f g) ⊗ d ≡ batch A s χ e (λ i. quad A s key i f' f') ⊕ batch A s χ e (λ i. middle A s key i f' g') ⊗ d
    product-same f g f' g' z z' h =
        sym (half f g z)
        ∙ batch_congr A s χ e _ _ (λ i l. ap₂ (λ a b. a ⊕ d ⊗ b ⊕ y_of A s key i ⊗ (d ⊗ d)) (quad_congr A s key i _ _ _ _ h h) (lin_congr A s key i _ _ h))
        ∙ half f' g' z'

module _ (A : Alphabet) (laws : Lawful A) (one : OneMask A) (s : Shape) (key leaves x Δ H' χ x' : List ℕ) where
  open A use {K}
  open K use {base, elem}
  open base use {R}
  open R use {F, 𝟘, 𝟙, add as ◌⊕◌, mul as ◌⊗◌}

  infixl 65 ◌⊕◌
  infixl 70 ◌⊗◌
  unfoldable pub first : ℕ → F
  first c = symbol A x c ⊕ symbol A x' c

  unfoldable pub moved : ℕ → ℕ → F
  moved e c = v A s leaves e c ⊕ elem (get_or Δ e 0) ⊗ (symbol A x c ⊕ symbol A x' c)

  abbrev before : ℕ → F
  before e = batch A s χ e (λ i. middle A s key i (v A s leaves e) (symbol A x))

  abbrev after : ℕ → F
  after e = batch A s χ e (λ i. middle A s key i (moved e) (symbol A x'))

  pub mask : ℕ → F
  mask e = before e ⊕ after e

  abbrev pub Fit : (ℕ → F) → Type 0
  Fit = Fits A laws one s H' first mask

  -- ---- a shift that fits, in every repetition, gives the same sections

  module _ (solved : (i : ℕ) → i < s.m → error A s key i (symbol A x) ≡ 𝟘) (solved' : (i : ℕ) → i < s.m → error A s key i (symbol A x') ≡ 𝟘) (leaves' : List ℕ) (g : ℕ → F)
      (hu : (e c : ℕ) → e < s.τ → c < l_of A s → u A s leaves' e c ≡ u A s leaves e c ⊕ g c) (hv : (e c : ℕ) → e < s.τ → c < l_of A s → v A s leaves' e c ≡ v A s leaves e c ⊕ elem (get_or Δ e 0) ⊗ g c)
      (fit : Fit g) (pos : 0 < s.τ) where
    C-kept : (e c : ℕ) → e < s.τ → c < l_of A s → correction A s leaves e c ≡ correction A s leaves' e c
    unfolding correction
    C-kept e c le l = sym (ap₂ ◌⊕◌ (hu e c le l) (hu 0 c pos l) ∙ both _ _ (g c))
      where
        both : (a b d : F) → (a ⊕ d) ⊕ (b ⊕ d) ≡ a ⊕ b
        both a b d = simp ring

    d_kept : (c : ℕ) → c < s.n → d_of A s leaves x c ≡ d_of A s leaves' x' c
    unfolding d_of first
    d_kept c l = sym (ap (λ z. symbol A x' c ⊕ z) (hu 0 c pos (n_below A s c l) ∙ ap (λ z. u A s leaves 0 c ⊕ z) (fit.on_first c l)) ∙ swap _ _ _)
      where
        swap : (a b y : F) → a ⊕ (b ⊕ (y ⊕ a)) ≡ y ⊕ b
        swap a b y = simp ring

    ũ_kept : (ρ : ℕ) → ρ < s.t → hash A s H' ρ (u A s leaves 0) ≡ hash A s H' ρ (u A s leaves' 0)
    ũ_kept ρ l =
        sym (hash_congr A s H' ρ (u A s leaves' 0) (λ c. u A s leaves 0 c ⊕ g c) (λ c k. hu 0 c pos k) ∙ hash-add A s H' ρ (u A s leaves 0) g
        ∙ ap (λ z. hash A s H' ρ (u A s leaves 0) ⊕ z) (fit.on_hash ρ l) ∙ R.add-zero _)

    module _ (e : ℕ) (le : e < s.τ) where
      abbrev δ : F
      δ = elem (get_or Δ e 0)

      abbrev v̂ : ℕ → F
      v̂ = v A s leaves e

      abbrev v̂' : ℕ → F
      v̂' = v A s leaves' e

      Ṽ_kept : (ρ : ℕ) → ρ < s.t → hash A s H' ρ (v A s leaves e) ≡ hash A s H' ρ (v A s leaves' e)
      Ṽ_kept ρ l =
          sym (hash_congr A s H' ρ v̂' (λ c. v̂ c ⊕ δ ⊗ g c) (λ c k. hv e c le k) ∙ hash-line A s H' ρ v̂ g δ
          ∙ ap (λ z. hash A s H' ρ v̂ ⊕ δ ⊗ z) (fit.on_hash ρ l) ∙ ap (λ z. hash A s H' ρ v̂ ⊕ z) (mul-zero R δ) ∙ R.add-zero _)

      is_moved : (c : ℕ) → c < s.n → v̂' c ≡ moved e c
      unfolding moved first
      is_moved c l = hv e c le (n_below A s c l) ∙ ap (λ z. v̂ c ⊕ δ ⊗ z) (fit.on_first c l)

      after_is : batch A s χ e (λ i. middle A s key i v̂' (symbol A x')) ≡ after e
      after_is = batch_congr A s χ e _ _ (λ i l. middle_congr A s key i v̂' (moved e) (symbol A x') (symbol A x') is_moved (λ c k. refl))

      QS1-kept : qs1 A s leaves key x χ e ≡ qs1 A s leaves' key x' χ e
      unfolding qs1 a₁ mask
      QS1-kept =
          sym (ap₂ ◌⊕◌ after_is (mask_congr A s e (u A s leaves' 0) (λ c. u A s leaves 0 c ⊕ g c) le (λ c k. hu 0 c pos k) ∙ mask-add A s e (u A s leaves 0) g
          ∙ ap (λ z. mask_of A s e (u A s leaves 0) ⊕ z) (fit.on_mask e le)) ∙ swap (after e) (mask_of A s e (u A s leaves 0)) (before e))
        where
          swap : (a b y : F) → a ⊕ (b ⊕ (y ⊕ a)) ≡ y ⊕ b
          swap a b y = simp ring

      line_same : (c : ℕ) → c < s.n → v̂ c ⊕ δ ⊗ symbol A x c ≡ v̂' c ⊕ δ ⊗ symbol A x' c
      unfolding moved
      line_same c l = sym (ap (λ z. z ⊕ δ ⊗ symbol A x' c) (is_moved c l) ∙ fold (v̂ c) δ (symbol A x c) (symbol A x' c))
        where
          fold : (a d y z : F) → a ⊕ d ⊗ (y ⊕ z) ⊕ d ⊗ z ≡ a ⊕ d ⊗ y
          fold a d y z = simp ring

      QS0-kept : qs0 A s leaves key χ e ≡ qs0 A s leaves' key χ e
      unfolding qs0 a₀ mask
      QS0-kept =
          close _ _ (mask_of A s e v̂) (before e) _ (after e) δ (product-same A s key χ e δ v̂ (symbol A x) v̂' (symbol A x') solved solved' line_same) after_is
          ∙ ap (λ z. batch A s χ e (λ i. quad A s key i v̂' v̂') ⊕ z)
          (sym (mask_congr A s e v̂' (λ c. v̂ c ⊕ δ ⊗ g c) le (λ c k. hv e c le k) ∙ mask-line A s e v̂ g δ ∙ ap (λ z. mask_of A s e v̂ ⊕ δ ⊗ z) (fit.on_mask e le)))
        where
          close : (q q' m b a' a d : F) → q ⊕ b ⊗ d ≡ q' ⊕ a' ⊗ d → a' ≡ a → q ⊕ m ≡ q' ⊕ (m ⊕ d ⊗ (b ⊕ a))
          close q q' m b a' a d h k = combine₁ R 𝟙 (h ∙ ap (λ z. q' ⊕ z ⊗ d) k) (simp ring)

    pub kept : sections_of A s leaves key x H' χ ≡ sections_of A s leaves' key x' H' χ
    kept = λ i. record {
      C = same-C A laws s key H' χ leaves x leaves' x' C-kept i;
      d = same_d A laws s key H' χ leaves x leaves' x' d_kept i;
      ũ = same_ũ A laws s key H' χ leaves x leaves' x' ũ_kept i;
      Ṽ = same_Ṽ A laws s key H' χ leaves x leaves' x' (λ e ρ le l. Ṽ_kept e le ρ l) i;
      QS0 = same-QS0 A laws s key H' χ leaves x leaves' x' QS0-kept i;
      QS1 = same-QS1 A laws s key H' χ leaves x leaves' x' QS1-kept i;
    }

  -- ---- the same sections, every repetition shifted alike and by a shift that fits

  module _ (leaves' : List ℕ) (g : ℕ → ℕ → F) (hu : (e c : ℕ) → e < s.τ → u A s leaves' e c ≡ u A s leaves e c ⊕ g e c)
      (hv : (e c : ℕ) → e < s.τ → v A s leaves' e c ≡ v A s leaves e c ⊕ elem (get_or Δ e 0) ⊗ g e c)
      (same : sections_of A s leaves key x H' χ ≡ sections_of A s leaves' key x' H' χ) (pos : 0 < s.τ) where
    pub alike : (e c : ℕ) → e < s.τ → c < l_of A s → g e c ≡ g 0 c
    alike e c le l = both _ _ _ _ (C-same A laws s key H' χ leaves x leaves' x' same e c le l ∙ ap₂ ◌⊕◌ (hu e c le) (hu 0 c pos))
      where
        both : (a b p q : F) → a ⊕ b ≡ (a ⊕ p) ⊕ (b ⊕ q) → p ≡ q
        both a b p q h = combine₁ R 𝟙 h (simp ring)

    on_first : (c : ℕ) → c < s.n → g 0 c ≡ first c
    unfolding first
    on_first c l = swap _ _ _ _ (d_same A laws s key H' χ leaves x leaves' x' same c l ∙ ap (λ z. symbol A x' c ⊕ z) (hu 0 c pos))
      where
        swap : (y b a p : F) → y ⊕ b ≡ a ⊕ (b ⊕ p) → p ≡ y ⊕ a
        swap y b a p h = combine₁ R 𝟙 h (simp ring)

    on_hash : (ρ : ℕ) → ρ < s.t → hash A s H' ρ (g 0) ≡ 𝟘
    on_hash ρ l =
        none _ _ (ũ_same A laws s key H' χ leaves x leaves' x' same ρ l ∙ hash_congr A s H' ρ (u A s leaves' 0) (λ c. u A s leaves 0 c ⊕ g 0 c) (λ c k. hu 0 c pos) ∙ hash-add A s H' ρ (u A s leaves 0) (g 0))
      where
        none : (a p : F) → a ≡ a ⊕ p → p ≡ 𝟘
        none a p h = combine₁ R 𝟙 h (simp ring)

    became : (e : ℕ) → e < s.τ → (c : ℕ) → c < s.n → v A s leaves' e c ≡ moved e c
    unfolding moved first
    became e le c l = hv e c le ∙ ap (λ z. v A s leaves e c ⊕ elem (get_or Δ e 0) ⊗ z) (alike e c le (n_below A s c l) ∙ on_first c l)

    on_mask : (e : ℕ) → e < s.τ → mask_of A s e (g 0) ≡ mask e
    unfolding qs1 a₁ mask
    on_mask e le =
        swap _ _ _ _
        (QS1-same A laws s key H' χ leaves x leaves' x' same e le
        ∙ ap₂ ◌⊕◌ (batch_congr A s χ e _ _ (λ i l. middle_congr A s key i (v A s leaves' e) (moved e) (symbol A x') (symbol A x') (became e le) (λ c k. refl)))
        (mask_congr A s e (u A s leaves' 0) (λ c. u A s leaves 0 c ⊕ g 0 c) le (λ c k. hu 0 c pos) ∙ mask-add A s e (u A s leaves 0) (g 0)))
      where
        swap : (y b a p : F) → y ⊕ b ≡ a ⊕ (b ⊕ p) → p ≡ y ⊕ a
        swap y b a p h = combine₁ R 𝟙 h (simp ring)

    pub must_fit : Fit (g 0)
    must_fit = record { on_first = on_first; on_mask = on_mask; on_hash = on_hash }
