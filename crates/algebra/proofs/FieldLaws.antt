-- Equality and equations in a field.
-- Assumes nothing.
use mathlib.Core.Path.{◌≡◌, refl, sym, ap, ◌∙◌, ◌≡⟨◌⟩◌, ◌∎}
use mathlib.Core.Logic.{◌≢◌}
use mathlib.Core.Bool.{Bool, true, false, true≢false}
use Rattle.algebra.specs.Field.{Field}
use Rattle.algebra.proofs.RingLaws.{ring, mul-zero}

module _ (K : Field) where
  open K use {R, inv, eqb}
  open R use {F, 𝟘, 𝟙, add as ◌⊕◌, mul as ◌⊗◌}

  infixl 65 ◌⊕◌
  infixl 70 ◌⊗◌
  pub dec : (x y : F) → Dec (x ≡ y)
  dec x y = go (eqb x y) refl
    where
      go : (b : Bool) → eqb x y ≡ b → Dec (x ≡ y)
      go true e = yes (K.eqb_sound x y e)
      go false e = no (λ h. true≢false (sym (rw h (K.eqb_refl y)) ∙ e))

  pub eqb-true : (x y : F) → x ≡ y → eqb x y ≡ true
  eqb-true x y h = rw h (K.eqb_refl y)

  pub eqb_iff : (a b c d : F) → (a ≡ b → c ≡ d) → (c ≡ d → a ≡ b) → eqb a b ≡ eqb c d
  eqb_iff a b c d f g = go (eqb a b) refl (eqb c d) refl
    where
      go : (x : Bool) → eqb a b ≡ x → (y : Bool) → eqb c d ≡ y → x ≡ y
      go true p true r = refl
      go true p false r = sym (sym r ∙ eqb-true c d (f (K.eqb_sound a b p)))
      go false p true r = sym p ∙ eqb-true a b (g (K.eqb_sound c d r))
      go false p false r = refl

  -- the one solution of x ⊗ y = z; a product that is zero, and a sum that is zero
  pub solve : (x y z : F) → x ≢ 𝟘 → x ⊗ y ≡ z → y ≡ inv x ⊗ z
  solve x y z n h =
      y ≡⟨ (simp ring) ⟩
      𝟙 ⊗ y ≡⟨ ap (λ w. w ⊗ y) (sym (K.mul-inv x n)) ⟩
      x ⊗ inv x ⊗ y ≡⟨ (simp ring) ⟩
      inv x ⊗ (x ⊗ y) ≡⟨ (rw h) ⟩
      inv x ⊗ z ∎

  pub mul-cancel : (x y : F) → x ≢ 𝟘 → x ⊗ y ≡ 𝟘 → y ≡ 𝟘
  mul-cancel x y n h = solve x y 𝟘 n h ∙ mul-zero R (inv x)

  pub add-cancel : (x y : F) → x ⊕ y ≡ 𝟘 → y ≡ x
  add-cancel x y h =
      y ≡⟨ (simp ring) ⟩
      x ⊕ (x ⊕ y) ≡⟨ (rw h) ⟩
      x ⊕ 𝟘 ≡⟨ (simp ring) ⟩
      x ∎
