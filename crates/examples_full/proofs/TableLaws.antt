-- Sections and checks from tables: each reads u, v and W at the coordinates below L only, so that tables of these give
-- the same bytes and answers.
--   entry l c == the element that byte c of l writes;  Near f g == f and g agree below L
--   c_of, masked_of, ũOf, ṼOf, qs0Of, qs1Of == the sections C, d, ũ, Ṽ, QS0, QS1, with any vectors û e, v̂ e for u_e, v_e
-- Assumes nothing.
use mathlib.Core.Path.{◌≡◌, refl, sym, ap, ap₂, ◌∙◌}
use mathlib.Core.List.{List}
use Prim.Native.Nat.{ℕ, suc, ◌+◌, ◌*◌, ◌-◌, ◌%◌, ◌<◌}
use native.Mathlib.Omega.{arith}
use lib.ListN.{get_or}
use Rattle.algebra.specs.Coded.{Coded}
use Rattle.algebra.specs.Roots.{Conditions}
use Rattle.protocol.specs.Lists.{table, concat, all_below}
use Rattle.protocol.specs.Strings.{pack}
use Rattle.protocol.specs.Alphabet.{Alphabet, sym as symbol, elem_at}
use Rattle.protocol.specs.Binary.{binary}
use Rattle.protocol.specs.Shape.{Shape, l_of}
use Rattle.protocol.specs.Sections.{Sections}
use Rattle.protocol.specs.Forms.{quad, y_of, middle, error, hash, mask_of, batch}
use Rattle.protocol.specs.Prover.{u, v, correction, d_of, a₀, a₁, qs0, qs1, c_section, d_section, ũSection, ṼSection, qs0_section, qs1_section}
use Rattle.protocol.specs.Verifier.{correction_at, key_at, consistent, product_left, product_holds, candidate, batched_error}
use Rattle.protocol.specs.Coefficients.{shift, conditions}
use Rattle.theorems.proofs.ListLaws.{table_at, table_congr}
use Rattle.theorems.proofs.StringLaws.{pack_congr}
use Rattle.theorems.proofs.FormLaws.{hash_congr, mask_congr, quad_congr, lin_congr}
use Rattle.theorems.proofs.HonestLaws.{n_below}

module _ (K : Coded) (s : Shape) where
  open K use {base, elem, byte}
  open base use {R, eqb as same?}
  open R use {F, 𝟘, add as ◌⊕◌, mul as ◌⊗◌}

  infixl 65 ◌⊕◌
  infixl 70 ◌⊗◌
  abbrev A : Alphabet
  A = binary K

  abbrev pub entry : List ℕ → ℕ → F
  entry l c = elem (get_or l c 0)

  abbrev pub Near : (ℕ → F) → (ℕ → F) → Type 0
  Near f g = (c : ℕ) → c < l_of (binary K) s → f c ≡ g c

  pub near : (f : ℕ → F) (l : List ℕ) → table (l_of (binary K) s) (λ c. byte (f c)) ≡ l → Near f (entry l)
  near f l h c k = sym (ap (λ r. elem (get_or r c 0)) (sym h) ∙ ap elem (table_at (l_of A s) (λ c. byte (f c)) 0 c k) ∙ K.elem-byte (f c))

  module _ (leaves : List ℕ) (û v̂ : ℕ → ℕ → F) where
    abbrev pub c_of : List ℕ
    c_of = concat (table (s.τ - 1) (λ e. pack (l_of (binary K) s) (λ c. byte (û (suc e) c ⊕ û 0 c) % 2)))

    abbrev pub masked_of : List ℕ → List ℕ
    masked_of x = pack s.n (λ c. byte (symbol (binary K) x c ⊕ û 0 c) % 2)

    abbrev pub ũOf : List ℕ → List ℕ
    ũOf H' = pack s.t (λ ρ. byte (hash (binary K) s H' ρ (û 0)) % 2)

    abbrev pub ṼOf : List ℕ → List ℕ
    ṼOf H' = concat (table s.τ (λ e. table s.t (λ ρ. byte (hash (binary K) s H' ρ (v̂ e)))))

    abbrev pub qs0_of : List ℕ → List ℕ → List ℕ
    qs0_of key χ = table s.τ (λ e. byte (batch (binary K) s χ e (λ i. quad (binary K) s key i (v̂ e) (v̂ e)) ⊕ mask_of (binary K) s e (v̂ e)))

    abbrev pub qs1_of : List ℕ → List ℕ → List ℕ → List ℕ
    qs1_of key x χ = table s.τ (λ e. byte (batch (binary K) s χ e (λ i. middle (binary K) s key i (v̂ e) (symbol (binary K) x)) ⊕ mask_of (binary K) s e (û 0)))

    module _ (one : 0 < s.τ) (hu : (e : ℕ) → e < s.τ → Near (u (binary K) s leaves e) (û e)) (hv : (e : ℕ) → e < s.τ → Near (v (binary K) s leaves e) (v̂ e)) where
      pub c_is : c_section (binary K) s leaves ≡ c_of
      unfolding c_section correction
      c_is =
          ap concat
          (table_congr (s.τ - 1) _ _ (λ e l. pack_congr (l_of A s) _ _ (λ c k. ap₂ (λ x y. byte (x ⊕ y) % 2) (hu (suc e) (omega arith) c k) (hu 0 one c k))))

      pub d_is : (x : List ℕ) → d_section (binary K) s leaves x ≡ masked_of x
      unfolding d_section d_of
      d_is x = pack_congr s.n _ _ (λ c l. ap (λ y. byte (symbol A x c ⊕ y) % 2) (hu 0 one c (n_below A s c l)))

      pub ũ_is : (H' : List ℕ) → ũSection (binary K) s leaves H' ≡ ũOf H'
      unfolding ũSection
      ũ_is H' = pack_congr s.t _ _ (λ ρ l. ap (λ y. byte y % 2) (hash_congr A s H' ρ _ (û 0) (hu 0 one)))

      pub Ṽ_is : (H' : List ℕ) → ṼSection (binary K) s leaves H' ≡ ṼOf H'
      unfolding ṼSection
      Ṽ_is H' = ap concat (table_congr s.τ _ _ (λ e l. ap (table s.t) (λ j ρ. byte (hash_congr A s H' ρ _ (v̂ e) (hv e l) j))))

      pub qs0_is : (key χ : List ℕ) → qs0_section (binary K) s leaves key χ ≡ qs0_of key χ
      unfolding qs0_section qs0 a₀
      qs0_is key χ =
          table_congr s.τ _ _
          (λ e l. let n : (c : ℕ) → c < s.n → v A s leaves e c ≡ v̂ e c = λ c k. hv e l c (n_below A s c k) in
          ap₂ (λ x y. byte (x ⊕ y)) (ap (batch A s χ e) (λ j i. quad_congr A s key i _ (v̂ e) _ (v̂ e) n n j)) (mask_congr A s e _ (v̂ e) l (hv e l)))

      pub qs1_is : (key x χ : List ℕ) → qs1_section (binary K) s leaves key x χ ≡ qs1_of key x χ
      unfolding qs1_section qs1 a₁ middle
      qs1_is key x χ =
          table_congr s.τ _ _
          (λ e l. let n : (c : ℕ) → c < s.n → v A s leaves e c ≡ v̂ e c = λ c k. hv e l c (n_below A s c k) in
          let w = symbol A x in
          let m : (i : ℕ) → middle A s key i (v A s leaves e) w ≡ middle A s key i (v̂ e) w = λ i.
          ap₂ ◌⊕◌ (ap₂ ◌⊕◌ (quad_congr A s key i _ (v̂ e) w w n (λ c k. refl)) (quad_congr A s key i w w _ (v̂ e) (λ c k. refl) n)) (lin_congr A s key i _ (v̂ e) n) in
          ap₂ (λ x y. byte (x ⊕ y)) (ap (batch A s χ e) (λ j i. m i j)) (mask_congr A s e _ (û 0) l (hu 0 one)))

  -- ---- the verifier's checks, with any vector for W

  pub consistent_is : (H' : List ℕ) (p : Sections) (e : ℕ) (δ : F) (f g : ℕ → F) → Near f g → consistent (binary K) s H' p e δ f ≡ consistent (binary K) s H' p e δ g
  unfolding consistent
  consistent_is H' p e δ f g k =
      ap (all_below s.t) (λ j ρ. ap (λ z. same? z (elem_at A p.Ṽ (e * s.t + ρ) ⊕ δ ⊗ symbol A p.ũ ρ)) (hash_congr A s H' ρ f g k) j)

  key_congr : (p : Sections) (δ : F) (f g : ℕ → F) → Near f g → (c : ℕ) → c < s.n → key_at A s p δ f c ≡ key_at A s p δ g c
  unfolding key_at
  key_congr p δ f g k c l = ap (λ z. z ⊕ δ ⊗ symbol A p.d c) (k c (n_below A s c l))

  pub product_is : (key χ : List ℕ) (p : Sections) (e : ℕ) (δ : F) (f g : ℕ → F) → e < s.τ → Near f g → product_holds (binary K) s key χ p e δ f ≡ product_holds (binary K) s key χ p e δ g
  unfolding product_holds product_left
  product_is key χ p e δ f g le k =
      let n = key_congr p δ f g k in
      ap₂ (λ x y. same? (batch A s χ e x ⊕ y) (elem_at A p.QS0 e ⊕ elem_at A p.QS1 e ⊗ δ))
      (λ j i. ap₂ (λ x y. x ⊕ δ ⊗ y ⊕ y_of A s key i ⊗ (δ ⊗ δ)) (quad_congr A s key i _ _ _ _ n n) (lin_congr A s key i _ _ n) j) (mask_congr A s e f g le k)

  -- ---- the conditions of a repetition, with any vectors for u_e and v_e

  module _ (key leaves H' χ : List ℕ) (p : Sections) (e : ℕ) (û v̂ : ℕ → F) where
    abbrev shift_of : ℕ → F
    shift_of c = û c ⊕ correction_at (binary K) s p e c

    abbrev candidate_of : ℕ → F
    candidate_of c = û c ⊕ correction_at (binary K) s p e c ⊕ symbol (binary K) p.d c

    abbrev pub conditions_of : Conditions base
    conditions_of = record {
      lines = table s.t (λ ρ. record { a = hash (binary K) s H' ρ v̂ ⊕ elem_at (binary K) p.Ṽ (e * s.t + ρ); b = hash (binary K) s H' ρ shift_of ⊕ symbol (binary K) p.ũ ρ });
      c0 = batch (binary K) s χ e (λ i. quad (binary K) s key i v̂ v̂) ⊕ mask_of (binary K) s e v̂ ⊕ elem_at (binary K) p.QS0 e;
      c1 = batch (binary K) s χ e (λ i. middle (binary K) s key i v̂ candidate_of) ⊕ mask_of (binary K) s e shift_of ⊕ elem_at (binary K) p.QS1 e;
      c2 = batch (binary K) s χ e (λ i. error (binary K) s key i candidate_of);
    }

    module _ (le : e < s.τ) (hu : Near (u (binary K) s leaves e) û) (hv : Near (v (binary K) s leaves e) v̂) where
      near-shift : Near (shift A s key leaves H' χ p e) shift_of
      near-shift c l = ap (λ z. z ⊕ correction_at A s p e c) (hu c l)

      near-candidate : (c : ℕ) → c < s.n → candidate A s leaves p e c ≡ candidate_of c
      unfolding candidate
      near-candidate c l = ap (λ z. z ⊕ correction_at A s p e c ⊕ symbol A p.d c) (hu c (n_below A s c l))

      n_v : (c : ℕ) → c < s.n → v A s leaves e c ≡ v̂ c
      n_v c l = hv c (n_below A s c l)

      pub conditions_is : conditions (binary K) s key leaves H' χ p e ≡ conditions_of
      unfolding middle error batched_error
      conditions_is = λ j. record {
        lines = table s.t (λ ρ. record {
          a = hash_congr A s H' ρ _ v̂ hv j ⊕ elem_at A p.Ṽ (e * s.t + ρ);
          b = hash_congr A s H' ρ _ shift_of near-shift j ⊕ symbol A p.ũ ρ;
        });
        c0 = batch A s χ e (λ i. quad_congr A s key i _ v̂ _ v̂ n_v n_v j) ⊕ mask_congr A s e _ v̂ le hv j ⊕ elem_at A p.QS0 e;
        c1 =
            batch A s χ e (λ i. quad_congr A s key i _ v̂ _ candidate_of n_v near-candidate j ⊕ quad_congr A s key i _ candidate_of _ v̂ near-candidate n_v j
            ⊕ lin_congr A s key i _ v̂ n_v j) ⊕ mask_congr A s e _ shift_of le near-shift j ⊕ elem_at A p.QS1 e;
        c2 =
            batch A s χ e (λ i. quad_congr A s key i _ candidate_of _ candidate_of near-candidate near-candidate j ⊕ lin_congr A s key i _ candidate_of near-candidate j ⊕ y_of A s key i);
      }
