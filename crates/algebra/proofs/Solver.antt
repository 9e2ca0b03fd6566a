-- The normal form of an expression has the expression's value, so expressions with one normal form are equal: a
-- decision procedure by computation.
-- Assumes nothing.
use mathlib.Core.Path.{◌≡◌, refl, sym, ap, ap₂, ◌∙◌, ◌≡⟨◌⟩◌, ◌∎}
use mathlib.Core.List.{List, [], ◌∷◌}
use Prim.Native.Nat.{ℕ, zero, suc, compare, Ordering}
use lib.Dec.{T, compare_is_eq, eqb→eq}
use lib.ListN.{get_or}
use Rattle.algebra.specs.Ring.{Ring}
use Rattle.algebra.proofs.RingLaws.{ring}
use Rattle.algebra.proofs.Expression.{Ex, var, :0, :1, ins, times, order, plus, add_p, scale, mul_p, norm, value, value_m, value_p, Equation, Nary, close, Holds}
pub use Rattle.algebra.proofs.Expression.{◌:+◌, ◌:*◌, ◌:=◌}

same : (o : Ordering) → o ≡ Ordering.eq → T (compare_is_eq o)
same o h = rw h tt

order_eq : (m n : List ℕ) → order m n ≡ Ordering.eq → m ≡ n
order_eq [] [] h = refl
order_eq [] (y ∷ n) h = absurd (same Ordering.lt h)
order_eq (x ∷ m) [] h = absurd (same Ordering.gt h)
order_eq (x ∷ m) (y ∷ n) h = go (compare x y) refl (order_eq m n) h
  where
    go : (o : Ordering) → compare x y ≡ o → (order m n ≡ Ordering.eq → m ≡ n)
        → (elim o as (λ w. Ordering) [ Ordering.lt ↦ Ordering.lt | Ordering.eq ↦ order m n | Ordering.gt ↦ Ordering.gt ]) ≡ Ordering.eq → x ∷ m ≡ y ∷ n
    go Ordering.lt e ih k = absurd (same Ordering.lt k)
    go Ordering.eq e ih k = ap₂ ◌∷◌ (eqb→eq x y (same (compare x y) e)) (ih k)
    go Ordering.gt e ih k = absurd (same Ordering.gt k)

module _ (R : Ring) (ρ : List R.F) where
  open R use {F, 𝟘, 𝟙, add as ◌⊕◌, mul as ◌⊗◌}

  infixl 65 ◌⊕◌
  infixl 70 ◌⊗◌
  ins_is : (x : ℕ) (m : List ℕ) → value_m R ρ (ins x m) ≡ get_or ρ x 𝟘 ⊗ value_m R ρ m
  ins_is x [] = refl
  ins_is x (y ∷ m) = go (compare x y) (ins_is x m)
    where
      go : (o : Ordering) → value_m R ρ (ins x m) ≡ get_or ρ x 𝟘 ⊗ value_m R ρ m
          → value_m R ρ (elim o [ Ordering.lt ↦ x ∷ y ∷ m | Ordering.eq ↦ x ∷ y ∷ m | Ordering.gt ↦ y ∷ ins x m ]) ≡ get_or ρ x 𝟘 ⊗ (get_or ρ y 𝟘 ⊗ value_m R ρ m)
      go Ordering.lt ih = refl
      go Ordering.eq ih = refl
      go Ordering.gt ih = ap (λ w. get_or ρ y 𝟘 ⊗ w) ih ∙ (simp ring)

  times_is : (m n : List ℕ) → value_m R ρ (times m n) ≡ value_m R ρ m ⊗ value_m R ρ n
  times_is [] n = let e : value_m R ρ n ≡ 𝟙 ⊗ value_m R ρ n = simp ring in e
  times_is (x ∷ m) n = ins_is x (times m n) ∙ ap (λ w. get_or ρ x 𝟘 ⊗ w) (times_is m n) ∙ sym (R.mul_assoc _ _ _)

  plus_is : (m : List ℕ) (p : List (List ℕ)) → value_p R ρ (plus m p) ≡ value_m R ρ m ⊕ value_p R ρ p
  plus_is m [] = refl
  plus_is m (n ∷ p) = go (order m n) refl (plus_is m p)
    where
      go : (o : Ordering) → order m n ≡ o → value_p R ρ (plus m p) ≡ value_m R ρ m ⊕ value_p R ρ p
          → value_p R ρ (elim o [ Ordering.lt ↦ m ∷ n ∷ p | Ordering.eq ↦ p | Ordering.gt ↦ n ∷ plus m p ]) ≡ value_m R ρ m ⊕ (value_m R ρ n ⊕ value_p R ρ p)
      go Ordering.lt e ih = refl
      go Ordering.eq e ih = rw (order_eq m n e) (let s : value_p R ρ p ≡ value_m R ρ n ⊕ (value_m R ρ n ⊕ value_p R ρ p) = simp ring in s)
      go Ordering.gt e ih = ap (λ w. value_m R ρ n ⊕ w) ih ∙ (simp ring)

  add_is : (p r : List (List ℕ)) → value_p R ρ (add_p p r) ≡ value_p R ρ p ⊕ value_p R ρ r
  add_is [] r = let e : value_p R ρ r ≡ 𝟘 ⊕ value_p R ρ r = simp ring in e
  add_is (m ∷ p) r = plus_is m (add_p p r) ∙ ap (λ w. value_m R ρ m ⊕ w) (add_is p r) ∙ sym (R.add_assoc _ _ _)

  step₁ : (a b c d : F) → a ⊗ b ⊕ (a ⊗ c ⊕ d) ≡ a ⊗ (b ⊕ c) ⊕ d
  step₁ a b c d = simp ring

  step₂ : (a b c : F) → a ⊗ b ⊕ c ⊗ b ≡ (a ⊕ c) ⊗ b
  step₂ a b c = simp ring

  scale_is : (m : List ℕ) (p r : List (List ℕ)) → value_p R ρ (scale m p r) ≡ value_m R ρ m ⊗ value_p R ρ p ⊕ value_p R ρ r
  scale_is m [] r = let e : value_p R ρ r ≡ value_m R ρ m ⊗ 𝟘 ⊕ value_p R ρ r = simp ring in e
  scale_is m (n ∷ p) r =
      plus_is (times m n) (scale m p r) ∙ ap₂ ◌⊕◌ (times_is m n) (scale_is m p r) ∙ step₁ _ _ _ _

  mul_is : (p r : List (List ℕ)) → value_p R ρ (mul_p p r) ≡ value_p R ρ p ⊗ value_p R ρ r
  mul_is [] r = let e : 𝟘 ≡ 𝟘 ⊗ value_p R ρ r = simp ring in e
  mul_is (m ∷ p) r =
      scale_is m r (mul_p p r) ∙ ap (λ w. value_m R ρ m ⊗ value_p R ρ r ⊕ w) (mul_is p r) ∙ step₂ _ _ _

  norm_is : (e : Ex) → value_p R ρ (norm e) ≡ value R ρ e
  norm_is (var i) = let s : get_or ρ i 𝟘 ⊗ 𝟙 ⊕ 𝟘 ≡ get_or ρ i 𝟘 = simp ring in s
  norm_is :0 = refl
  norm_is :1 = R.add-zero 𝟙
  norm_is (a :+ b) = add_is (norm a) (norm b) ∙ ap₂ ◌⊕◌ (norm_is a) (norm_is b)
  norm_is (a :* b) = mul_is (norm a) (norm b) ∙ ap₂ ◌⊗◌ (norm_is a) (norm_is b)

  pub by-norm : (a b : Ex) → norm a ≡ norm b → value R ρ a ≡ value R ρ b
  by-norm a b h = sym (norm_is a) ∙ ap (value_p R ρ) h ∙ norm_is b

holds : (R : Ring) (n : ℕ) (ρ : List R.F → List R.F) (e : Equation) → norm e.left ≡ norm e.right → Holds R n ρ e
holds R zero ρ e h = by-norm R (ρ []) e.left e.right h
holds R (suc n) ρ e h = λ x. holds R n (λ xs. ρ (x ∷ xs)) e h

-- `ring_by R n (λ x .. z. left := right) refl` proves the equation for all elements x .. z
pub ring_by : (R : Ring) (n : ℕ) (f : Nary n) → norm (close n 0 f).left ≡ norm (close n 0 f).right → Holds R n (λ xs. xs) (close n 0 f)
ring_by R n f h = holds R n (λ xs. xs) (close n 0 f) h

-- an equation from equations: the difference of its sides is a combination of theirs
module _ (R : Ring) where
  open R use {F, 𝟘, 𝟙, add as ◌⊕◌, mul as ◌⊗◌}

  infixl 65 ◌⊕◌
  infixl 70 ◌⊗◌
  pub same_of_zero : {x y : F} → x ⊕ y ≡ 𝟘 → x ≡ y
  same_of_zero {x} {y} h =
      x ≡⟨ (simp ring) ⟩
      (x ⊕ y) ⊕ y ≡⟨ ap (λ w. w ⊕ y) h ⟩
      𝟘 ⊕ y ≡⟨ (simp ring) ⟩
      y ∎

  pub zero_of_same : {x y : F} → x ≡ y → x ⊕ y ≡ 𝟘
  zero_of_same {x} {y} h = ap (λ w. w ⊕ y) h ∙ R.add_self y

  pub combine₁ : {x y l r : F} (c : F) → l ≡ r → x ⊕ y ≡ c ⊗ (l ⊕ r) → x ≡ y
  combine₁ c h e = same_of_zero (e ∙ ap (λ w. c ⊗ w) (zero_of_same h) ∙ (simp ring))
