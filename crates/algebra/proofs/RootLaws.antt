-- The elements that pass conditions: at most two of them, or all, and all exactly if every coefficient is zero.
-- Assumes nothing.
use mathlib.Core.Path.{◌≡◌, refl, sym, ap, ◌∙◌}
use mathlib.Core.Logic.{◌⊎◌, inl, inr, ◌≢◌}
use mathlib.Core.Bool.{Bool, true, false, ◌||◌}
use mathlib.Core.List.{List, [], ◌∷◌}
use Prim.Native.Nat.{ℕ, zero, suc, ◌≤◌, ◌<◌}
use native.Mathlib.Omega.{arith}
use Rattle.algebra.specs.Count.{count}
use Rattle.algebra.specs.Field.{Field}
use Rattle.algebra.proofs.RingLaws.{ring}
use Rattle.algebra.specs.Roots.{is_zero, Line, Conditions, line_at, lines_ok, quad_at, passing, ZeroOneTwoAll, ZeroOneAll, AllZero, FourCases, FullExactly, LineCases}
pub use Rattle.algebra.specs.Roots.{Trivial}
pub use Rattle.algebra.proofs.FieldLaws.{dec, eqb-true, solve, mul-cancel, add-cancel}
use Rattle.algebra.proofs.CountLaws.{and_left, and_right, count_mono, count-or, count-true, find}

module _ (K : Field) where
  open K use {R, inv, eqb, elements, size}
  open R use {F, 𝟘, 𝟙, add as ◌⊕◌, mul as ◌⊗◌}

  infixl 65 ◌⊕◌
  infixl 70 ◌⊗◌
  at_most_one : (p : F → Bool) (r : F) → ((x : F) → p x ≡ true → x ≡ r) → count p elements ≤ 1
  at_most_one p r h = omega (arith, count_mono p (eqb r) (λ x t. eqb-true K r x (sym (h x t))) elements, K.elements_once r)

  at_most_two : (p : F → Bool) (r s : F) → ((x : F) → p x ≡ true → (x ≡ r) ⊎ (x ≡ s)) → count p elements ≤ 2
  at_most_two p r s h =
      omega (arith, count_mono p (λ x. eqb r x || eqb s x) (λ x t. go x (h x t)) elements, count-or (eqb r) (eqb s) elements, K.elements_once r, K.elements_once s)
    where
      go : (x : F) → (x ≡ r) ⊎ (x ≡ s) → (eqb r x || eqb s x) ≡ true
      go x (inl e) = rw (eqb-true K r x (sym e))
      go x (inr e) = right (eqb r x) (eqb-true K s x (sym e))
        where
          right : (b : Bool) {c : Bool} → c ≡ true → (b || c) ≡ true
          right true e = refl
          right false e = e

  -- a line that is not zero holds at one element at most
  pub line_bound : (l : Line K) → ((l.a ≡ 𝟘) × (l.b ≡ 𝟘)) ⊎ (count (λ x. is_zero K (line_at K l x)) elements ≤ 1)
  line_bound l = go (dec K l.b 𝟘) (dec K l.a 𝟘)
    where
      at : (x : F) → is_zero K (line_at K l x) ≡ true → line_at K l x ≡ 𝟘
      at x t = K.eqb_sound (line_at K l x) 𝟘 t

      go : Dec (l.b ≡ 𝟘) → Dec (l.a ≡ 𝟘) → ((l.a ≡ 𝟘) × (l.b ≡ 𝟘)) ⊎ (count (λ x. is_zero K (line_at K l x)) elements ≤ 1)
      go (yes b0) (yes a0) = inl (a0, b0)
      go (yes b0) (no a1) = inr (at_most_one _ 𝟘 (λ x t. absurd (a1 (simp (line_at, b0, ring) at (at x t)))))
      go (no b1) a = inr (at_most_one _ (inv l.b ⊗ l.a) (λ x t. solve K l.b x l.a b1 (R.mul_comm l.b x ∙ add-cancel K l.a (x ⊗ l.b) (at x t))))

  -- a quadratic polynomial that is not zero has two roots at most
  pub quad_bound : (c0 c1 c2 : F) → ((c0 ≡ 𝟘) × (c1 ≡ 𝟘) × (c2 ≡ 𝟘)) ⊎ (count (λ x. is_zero K (quad_at K c0 c1 c2 x)) elements ≤ 2)
  quad_bound c0 c1 c2 = go (find p elements)
    where
      p : F → Bool
      p x = is_zero K (quad_at K c0 c1 c2 x)

      at : (x : F) → p x ≡ true → quad_at K c0 c1 c2 x ≡ 𝟘
      at x t = K.eqb_sound (quad_at K c0 c1 c2 x) 𝟘 t

      -- the difference of the values at x and r has the factor x ⊕ r
      factor : (x r : F) → p x ≡ true → p r ≡ true → (x ⊕ r) ⊗ (c2 ⊗ (x ⊕ r) ⊕ c1) ≡ 𝟘
      factor x r t u =
          let s : (x ⊕ r) ⊗ (c2 ⊗ (x ⊕ r) ⊕ c1) ≡ quad_at K c0 c1 c2 x ⊕ quad_at K c0 c1 c2 r = simp ring in
          s ∙ rw (at x t, at r u) (R.add_self 𝟘)

      roots : (r : F) → p r ≡ true → c2 ≢ 𝟘 → (x : F) → p x ≡ true → (x ≡ r) ⊎ (x ≡ r ⊕ inv c2 ⊗ c1)
      roots r u n x t = pick (dec K (x ⊕ r) 𝟘)
        where
          pick : Dec (x ⊕ r ≡ 𝟘) → (x ≡ r) ⊎ (x ≡ r ⊕ inv c2 ⊗ c1)
          pick (yes e) = inl (sym (add-cancel K x r e))
          pick (no n') =
              let e : c2 ⊗ (x ⊕ r) ≡ c1 = sym (add-cancel K _ _ (mul-cancel K (x ⊕ r) _ n' (factor x r t u))) in
              let s : x ≡ r ⊕ (x ⊕ r) = simp ring in
              inr (s ∙ ap (λ w. r ⊕ w) (solve K c2 (x ⊕ r) c1 n e))

      go : ((x : F) × (p x ≡ true)) ⊎ (count p elements ≡ 0) → ((c0 ≡ 𝟘) × (c1 ≡ 𝟘) × (c2 ≡ 𝟘)) ⊎ (count p elements ≤ 2)
      go (inr e) = inr (omega arith)
      go (inl u) = by (dec K c2 𝟘) (dec K c1 𝟘) (dec K c0 𝟘)
        where
          lin : c2 ≡ 𝟘 → (x : F) → p x ≡ true → c1 ⊗ x ⊕ c0 ≡ 𝟘
          lin e x t = simp ring (simp (e, ring) at (at x t))

          by : Dec (c2 ≡ 𝟘) → Dec (c1 ≡ 𝟘) → Dec (c0 ≡ 𝟘) → ((c0 ≡ 𝟘) × (c1 ≡ 𝟘) × (c2 ≡ 𝟘)) ⊎ (count p elements ≤ 2)
          by (no n) d e = inr (at_most_two p u.0 _ (roots u.0 u.1 n))
          by (yes e2) (no n) e = inr (omega (arith, at_most_one p (inv c1 ⊗ c0) (λ x t. solve K c1 x c0 n (sym (add-cancel K _ _ (lin e2 x t))))))
          by (yes e2) (yes e1) (no n) = absurd (n (simp (e1, ring) at (lin e2 u.0 u.1)))
          by (yes e2) (yes e1) (yes e0) = inl (e0, e1, e2)

  pub lines_bound : (ls : List (Line K)) → AllZero K ls ⊎ (count (lines_ok K ls) elements ≤ 1)
  lines_bound [] = inl tt
  lines_bound (l ∷ ls) = go (line_bound l) (lines_bound ls)
    where
      one : F → Bool
      one x = is_zero K (line_at K l x)

      go : ((l.a ≡ 𝟘) × (l.b ≡ 𝟘)) ⊎ (count one elements ≤ 1) → AllZero K ls ⊎ (count (lines_ok K ls) elements ≤ 1) → AllZero K (l ∷ ls) ⊎ (count (lines_ok K (l ∷ ls)) elements ≤ 1)
      go (inr h) r = inr (omega (arith, count_mono (lines_ok K (l ∷ ls)) one (λ x. and_left (one x) (lines_ok K ls x)) elements))
      go (inl z) (inr h) = inr (omega (arith, count_mono (lines_ok K (l ∷ ls)) (lines_ok K ls) (λ x. and_right (one x) (lines_ok K ls x)) elements))
      go (inl z) (inl zs) = inl (z.0, z.1, zs)

  -- conditions that are not trivial pass at two elements at most
  pub factor_bound : (c : Conditions K) → Trivial K c ⊎ (count (passing K c) elements ≤ 2)
  factor_bound c = go (lines_bound c.lines) (quad_bound c.c0 c.c1 c.c2)
    where
      two : F → Bool
      two x = is_zero K (quad_at K c.c0 c.c1 c.c2 x)

      go : AllZero K c.lines ⊎ (count (lines_ok K c.lines) elements ≤ 1) → ((c.c0 ≡ 𝟘) × (c.c1 ≡ 𝟘) × (c.c2 ≡ 𝟘)) ⊎ (count two elements ≤ 2) → Trivial K c ⊎ (count (passing K c) elements ≤ 2)
      go (inr h) r = inr (omega (arith, count_mono (passing K c) (lines_ok K c.lines) (λ x. and_left (lines_ok K c.lines x) (two x)) elements))
      go (inl z) (inr h) = inr (omega (arith, count_mono (passing K c) two (λ x. and_right (lines_ok K c.lines x) (two x)) elements))
      go (inl z) (inl w) = inl (record { lines-zero = z; c0-zero = w.0; c1-zero = w.1; c2-zero = w.2 })

  lines_trivial : (ls : List (Line K)) → AllZero K ls → (x : F) → lines_ok K ls x ≡ true
  lines_trivial [] z x = refl
  lines_trivial (l ∷ ls) z x =
      let e : line_at K l x ≡ 𝟘 = simp (line_at, z.0, z.1, ring) in
      rw (eqb-true K (line_at K l x) 𝟘 e) (lines_trivial ls z.2 x)

  pub factor_trivial : (c : Conditions K) → Trivial K c → count (passing K c) elements ≡ size
  factor_trivial c z = count-true (passing K c) every elements ∙ K.elements-length
    where
      every : (x : F) → passing K c x ≡ true
      every x =
          let e : quad_at K c.c0 c.c1 c.c2 x ≡ 𝟘 = simp (z.c0-zero, z.c1-zero, z.c2-zero, ring) in
          rw (lines_trivial c.lines z.lines-zero x) (eqb-true K _ 𝟘 e)

  up-to-two : (n : ℕ) → n ≤ 2 → ZeroOneTwoAll size n
  up-to-two zero h = inl refl
  up-to-two (suc zero) h = inr (inl refl)
  up-to-two (suc (suc zero)) h = inr (inr (inl refl))
  up-to-two (suc (suc (suc n))) h = absurd (omega arith)

  pub factor_values : (c : Conditions K) → FourCases K c
  factor_values c = go (factor_bound c)
    where
      go : Trivial K c ⊎ (count (passing K c) elements ≤ 2) → FourCases K c
      go (inl z) = inr (inr (inr (factor_trivial c z)))
      go (inr h) = up-to-two _ h

  -- conditions that pass at more than two elements are trivial
  pub factor-full : (c : Conditions K) → 2 < count (passing K c) elements → Trivial K c
  factor-full c h = go (factor_bound c)
    where
      go : Trivial K c ⊎ (count (passing K c) elements ≤ 2) → Trivial K c
      go (inl z) = z
      go (inr k) = absurd (omega arith)

  pub factor_q : (c : Conditions K) → count (passing K c) elements ≡ size → Trivial K c
  factor_q c h = factor-full c (omega (arith, K.four≤size))

  pub factor_iff : (c : Conditions K) → FullExactly K c
  factor_iff c = (factor_q c, factor_trivial c)

  up-to-one : (n : ℕ) → n ≤ 1 → ZeroOneAll size n
  up-to-one zero h = inl refl
  up-to-one (suc zero) h = inr (inl refl)
  up-to-one (suc (suc n)) h = absurd (omega arith)

  pub lines_values : (ls : List (Line K)) → LineCases K ls
  lines_values ls = go (lines_bound ls)
    where
      go : AllZero K ls ⊎ (count (lines_ok K ls) elements ≤ 1) → LineCases K ls
      go (inl z) = inr (inr (count-true (lines_ok K ls) (lines_trivial ls z) elements ∙ K.elements-length))
      go (inr h) = up-to-one _ h
