-- An honest proof: its sections hold what the rules say, read back as they were written, and make every coefficient of
-- every repetition zero.
-- Assumes nothing.
use mathlib.Core.Path.{◌≡◌, refl, sym, ap, ap₂, ◌∙◌}
use mathlib.Core.Bool.{true}
use mathlib.Core.List.{List, [], ◌∷◌, map}
use Prim.Native.Nat.{ℕ, zero, suc, ◌+◌, ◌*◌, ◌-◌, ◌≤◌, ◌<◌}
use native.Mathlib.Nat.{mul-le-mul}
use native.Mathlib.Omega.{arith}
use lib.Dec.{lit<}
use lib.ListN.{length, get_or}
use Rattle.algebra.specs.Roots.{is_zero, line_at, passing}
use Rattle.algebra.proofs.RingLaws.{ring, add_self_left}
use Rattle.algebra.proofs.FieldLaws.{eqb-true}
use Rattle.protocol.specs.Lists.{table, block_at}
use Rattle.protocol.specs.Frames.{frame, framed, section_no}
use Rattle.protocol.specs.Alphabet.{Alphabet, sym as symbol, elem_at, Lawful}
use Rattle.protocol.specs.Shape.{Shape, most_variables, most_repetitions, most_hash_rows, k_of, l_of, w_of}
use Rattle.protocol.specs.Key.{rows_spare}
use Rattle.protocol.specs.Sections.{Sections, bytes_of, lengths, sections_in}
use Rattle.protocol.specs.Forms.{quad, lin, y_of, middle, error, hash, mask_of, batch}
use Rattle.protocol.specs.Prover.{u, v, correction, d_of, a₀, a₁, qs0, qs1, c_section, d_section, ũSection, ṼSection, qs0_section, qs1_section, sections_of}
use Rattle.protocol.specs.Verifier.{correction_at, candidate, batched_error}
use Rattle.protocol.specs.Questions.{proof_spare}
use Rattle.protocol.specs.Coefficients.{shift, row_line, conditions}
use Rattle.theorems.proofs.TestLaws.{both_true, all_of, true-all}
use Rattle.theorems.proofs.ListLaws.{block_getD, length-table, table_at, table-block, table-length}
use Rattle.theorems.proofs.FrameLaws.{Short, frame-framed, frame-section}
use Rattle.theorems.proofs.FormLaws.{hash_congr, mask_congr, quad_congr, lin_congr, batch_congr, batch-zero}
use Rattle.theorems.proofs.CoefficientLaws.{all_lines}
use Rattle.theorems.proofs.LimitLaws.{Bounds}
use Rattle.theorems.proofs.SymbolLaws.{pack-sym, spare-pack, hash_symbol, correction_symbol, d_symbol}

pub n_below : (A : Alphabet) (s : Shape) (c : ℕ) → c < s.n → c < l_of A s
unfolding l_of k_of
n_below A s c l = omega arith

module _ (A : Alphabet) (laws : Lawful A) where
  open A use {K, symbol_of, width, pack, spare_zero}
  open K use {base, elem, byte}
  open base use {R}
  open R use {F, 𝟘, add as ◌⊕◌, mul as ◌⊗◌}

  infixl 65 ◌⊕◌
  infixl 70 ◌⊗◌
  module _ (s : Shape) (leaves : List ℕ) where
    -- ---- the sections, by rows

    unfoldable row_c : ℕ → List ℕ
    row_c e = pack (l_of A s) (λ c. symbol_of (correction A s leaves (suc e) c))

    length-row_c : (e : ℕ) → e < s.τ - 1 → length (row_c e) ≡ w_of A s
    unfolding row_c w_of
    length-row_c e l = laws.pack-length (l_of A s) _

    C-length : length (c_section A s leaves) ≡ (s.τ - 1) * w_of A s
    unfolding c_section row_c
    C-length = table-length (w_of A s) (s.τ - 1) row_c length-row_c

    C-block : (e : ℕ) → e < s.τ - 1 → block_at (c_section A s leaves) (w_of A s) e ≡ row_c e
    unfolding c_section row_c
    C-block e l = table-block (w_of A s) (s.τ - 1) row_c length-row_c e l

    unfoldable row_v : List ℕ → ℕ → List ℕ
    row_v H' e = table s.t (λ ρ. byte (hash A s H' ρ (v A s leaves e)))

    length_rowV : (H' : List ℕ) (e : ℕ) → e < s.τ → length (row_v H' e) ≡ s.t
    unfolding row_v
    length_rowV H' e l = length-table s.t _

    Ṽ_length : (H' : List ℕ) → length (ṼSection A s leaves H') ≡ s.τ * s.t
    unfolding ṼSection row_v
    Ṽ_length H' = table-length s.t s.τ (row_v H') (length_rowV H')

    -- ---- what the verifier reads in them

    module _ (key x H' χ : List ℕ) where
      abbrev pub P : Sections
      P = sections_of A s leaves key x H' χ

      pub shift_is : (e : ℕ) → e < s.τ → (c : ℕ) → c < l_of A s → shift A s key leaves H' χ P e c ≡ u A s leaves 0 c
      unfolding correction_at row_c correction
      shift_is zero l c k = R.add-zero _
      shift_is (suc e) l c k =
          ap (λ z. u A s leaves (suc e) c ⊕ z)
          (ap (λ z. symbol A z c) (C-block e (omega arith)) ∙ pack-sym A laws (l_of A s) (correction A s leaves (suc e)) (correction_symbol A laws s leaves (suc e)) c k)
          ∙ add_self_left R (u A s leaves (suc e) c) (u A s leaves 0 c)

      pub d_is : (c : ℕ) → c < s.n → symbol A P.d c ≡ symbol A x c ⊕ u A s leaves 0 c
      unfolding d_of d_section
      d_is c l = pack-sym A laws s.n (d_of A s leaves x) (d_symbol A laws s leaves x) c l

      candidate_is : (e : ℕ) → e < s.τ → (c : ℕ) → c < s.n → candidate A s leaves P e c ≡ symbol A x c
      unfolding candidate
      candidate_is e le c l =
          ap₂ ◌⊕◌ (shift_is e le c (n_below A s c l)) (d_is c l) ∙ cancel (u A s leaves 0 c) (symbol A x c)
        where
          cancel : (a b : F) → a ⊕ (b ⊕ a) ≡ b
          cancel a b = simp ring

      pub ũ_is : (ρ : ℕ) → ρ < s.t → symbol A P.ũ ρ ≡ hash A s H' ρ (u A s leaves 0)
      unfolding ũSection
      ũ_is ρ l = pack-sym A laws s.t (λ ρ. hash A s H' ρ (u A s leaves 0)) (hash_symbol A laws s leaves H') ρ l

      Ṽ_is : (e ρ : ℕ) → e < s.τ → ρ < s.t → elem_at A P.Ṽ (e * s.t + ρ) ≡ hash A s H' ρ (v A s leaves e)
      unfolding elem_at ṼSection row_v
      Ṽ_is e ρ le l =
          ap elem (sym (block_getD P.Ṽ s.t e ρ l) ∙ ap (λ z. get_or z ρ 0) (table-block s.t s.τ (row_v H') (length_rowV H') e le)
          ∙ table_at s.t (λ ρ. byte (hash A s H' ρ (v A s leaves e))) 0 ρ l)
          ∙ K.elem-byte _

      QS0_is : (e : ℕ) → e < s.τ → elem_at A P.QS0 e ≡ qs0 A s leaves key χ e
      unfolding elem_at qs0_section
      QS0_is e le = ap elem (table_at s.τ (λ e. byte (qs0 A s leaves key χ e)) 0 e le) ∙ K.elem-byte _

      pub QS1_is : (e : ℕ) → e < s.τ → elem_at A P.QS1 e ≡ qs1 A s leaves key x χ e
      unfolding elem_at qs1_section
      QS1_is e le = ap elem (table_at s.τ (λ e. byte (qs1 A s leaves key x χ e)) 0 e le) ∙ K.elem-byte _

      -- ---- every coefficient is zero

      module _ (e : ℕ) (le : e < s.τ) where
        line-zero : (ρ : ℕ) → ρ < s.t → (y : F) → line_at base (row_line A s key leaves H' χ P e ρ) y ≡ 𝟘
        line-zero ρ l y =
            ap₂ (λ a b. hash A s H' ρ (v A s leaves e) ⊕ a ⊕ y ⊗ b) (Ṽ_is e ρ le l)
            (ap₂ ◌⊕◌ (hash_congr A s H' ρ (shift A s key leaves H' χ P e) (u A s leaves 0) (shift_is e le)) (ũ_is ρ l))
            ∙ gone _ y _
          where
            gone : (a y b : F) → a ⊕ a ⊕ y ⊗ (b ⊕ b) ≡ 𝟘
            gone a y b = simp ring

        c0-zero : (conditions A s key leaves H' χ P e).c0 ≡ 𝟘
        unfolding qs0 a₀
        c0-zero = ap (λ z. batch A s χ e (λ i. quad A s key i (v A s leaves e) (v A s leaves e)) ⊕ mask_of A s e (v A s leaves e) ⊕ z) (QS0_is e le) ∙ R.add_self _

        middle_is : (i : ℕ) → middle A s key i (v A s leaves e) (candidate A s leaves P e) ≡ a₁ A s leaves key x e i
        unfolding middle a₁
        middle_is i =
            ap₂ (λ a b. a ⊕ b ⊕ lin A s key i (v A s leaves e))
            (quad_congr A s key i (v A s leaves e) (v A s leaves e) (candidate A s leaves P e) (symbol A x) (λ c l. refl) (candidate_is e le))
            (quad_congr A s key i (candidate A s leaves P e) (symbol A x) (v A s leaves e) (v A s leaves e) (candidate_is e le) (λ c l. refl))

        c1-zero : (conditions A s key leaves H' χ P e).c1 ≡ 𝟘
        unfolding qs1
        c1-zero =
            ap₂ ◌⊕◌ (ap₂ ◌⊕◌ (batch_congr A s χ e _ (a₁ A s leaves key x e) (λ i l. middle_is i)) (mask_congr A s e (shift A s key leaves H' χ P e) (u A s leaves 0) le (shift_is e le))) (QS1_is e le)
            ∙ R.add_self _

        module _ (solved : (i : ℕ) → i < s.m → error A s key i (symbol A x) ≡ 𝟘) where
          error_is : (i : ℕ) → i < s.m → error A s key i (candidate A s leaves P e) ≡ 𝟘
          unfolding error
          error_is i l =
              ap (λ z. z ⊕ y_of A s key i)
              (ap₂ ◌⊕◌ (quad_congr A s key i (candidate A s leaves P e) (symbol A x) (candidate A s leaves P e) (symbol A x) (candidate_is e le) (candidate_is e le))
              (lin_congr A s key i (candidate A s leaves P e) (symbol A x) (candidate_is e le)))
              ∙ solved i l

          c2-zero : (conditions A s key leaves H' χ P e).c2 ≡ 𝟘
          unfolding batched_error
          c2-zero = batch_congr A s χ e _ (λ i. 𝟘) error_is ∙ batch-zero A s χ e

          pub passing-all : (y : F) → passing base (conditions A s key leaves H' χ P e) y ≡ true
          passing-all y =
              both_true _ _ (sym (all_lines A s s.t (row_line A s key leaves H' χ P e) y) ∙ all_of s.t (λ ρ. is_zero base (line_at base (row_line A s key leaves H' χ P e ρ) y)) (λ ρ l. eqb-true base _ 𝟘 (line-zero ρ l y)))
              (eqb-true base _ 𝟘 (ap₂ (λ a b. a ⊕ b ⊗ y ⊕ (conditions A s key leaves H' χ P e).c2 ⊗ (y ⊗ y)) c0-zero c1-zero ∙ ap (λ z. 𝟘 ⊕ 𝟘 ⊗ y ⊕ z ⊗ (y ⊗ y)) c2-zero ∙ gone y))
            where
              gone : (y : F) → 𝟘 ⊕ 𝟘 ⊗ y ⊕ 𝟘 ⊗ (y ⊗ y) ≡ 𝟘
              gone y = simp ring

      -- ---- the form of the bytes

      abbrev six : List (List ℕ)
      six = P.C ∷ P.d ∷ P.ũ ∷ P.Ṽ ∷ P.QS0 ∷ P.QS1 ∷ []

      d_length : length P.d ≡ width s.n
      unfolding d_section
      d_length = laws.pack-length s.n _

      ũ_length : length P.ũ ≡ width s.t
      unfolding ũSection
      ũ_length = laws.pack-length s.t _

      QS0-length : length P.QS0 ≡ s.τ
      unfolding qs0_section
      QS0-length = length-table s.τ _

      QS1-length : length P.QS1 ≡ s.τ
      unfolding qs1_section
      QS1-length = length-table s.τ _

      pub lengths_are : map length six ≡ lengths A s
      unfolding lengths
      lengths_are = λ i. C-length i ∷ d_length i ∷ ũ_length i ∷ Ṽ_length H' i ∷ QS0-length i ∷ QS1-length i ∷ []

      module _ (b : Bounds s) where
        -- a mask has at most eight coordinates, and a symbol at most a byte
        w≤ : w_of A s ≤ most_variables + most_repetitions * 8 + most_hash_rows
        unfolding w_of l_of k_of
        w≤ = omega (arith, laws.width_le (s.n + s.τ * A.masks + s.t), mul-le-mul b.τ≤ laws.masks_le, b.n≤, b.t≤)

        short : Short six
        short = (omega (arith, C-length, mul-le-mul τ' w≤), (omega (arith, d_length, laws.width_le s.n, b.n≤), (omega (arith, ũ_length, laws.width_le s.t, b.t≤), (omega (arith, Ṽ_length H', mul-le-mul b.τ≤ b.t≤), (omega (arith, QS0-length, b.τ≤), (omega (arith, QS1-length, b.τ≤), tt))))))
          where
            τ' : s.τ - 1 ≤ most_repetitions - 1
            τ' = omega (arith, b.τ≤)

        pub exact : framed (lengths A s) (bytes_of P) ≡ true
        unfolding bytes_of
        exact = ap (λ l. framed l (frame six)) (sym lengths_are) ∙ frame-framed six short

      section_is : (i : ℕ) → i < 6 → section_no (lengths A s) i (bytes_of P) ≡ get_or six i []
      unfolding bytes_of
      section_is i l = ap (λ ls. section_no ls i (frame six)) (sym lengths_are) ∙ frame-section six i l

      pub sections-back : sections_in A s (bytes_of P) ≡ P
      sections-back = λ i. record { C = section_is 0 (lit< tt) i; d = section_is 1 (lit< tt) i; ũ = section_is 2 (lit< tt) i; Ṽ = section_is 3 (lit< tt) i; QS0 = section_is 4 (lit< tt) i; QS1 = section_is 5 (lit< tt) i }

      row-spare : (e : ℕ) → e < s.τ - 1 → spare_zero (block_at P.C (w_of A s) e) (l_of A s) ≡ true
      unfolding row_c
      row-spare e l = ap (λ z. spare_zero z (l_of A s)) (C-block e l) ∙ spare-pack A laws (l_of A s) (correction A s leaves (suc e))

      pub spare : proof_spare A s P ≡ true
      unfolding proof_spare rows_spare w_of d_section ũSection
      spare =
          true-all (rows_spare A (l_of A s) (s.τ - 1) P.C ∷ spare_zero P.d s.n ∷ spare_zero P.ũ s.t ∷ [])
          (all_of (s.τ - 1) _ row-spare, (spare-pack A laws s.n (d_of A s leaves x), (spare-pack A laws s.t (λ ρ. hash A s H' ρ (u A s leaves 0)), tt)))
