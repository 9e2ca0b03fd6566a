-- Two honest proofs have the same sections exactly if what the rules give for them is the same, element by element.
-- Assumes nothing.
use mathlib.Core.Path.{◌≡◌, sym, ap, ◌∙◌}
use mathlib.Core.List.{List}
use Prim.Native.Nat.{ℕ, suc, ◌-◌, ◌<◌}
use native.Mathlib.Omega.{arith}
use Rattle.algebra.proofs.RingLaws.{ring}
use Rattle.protocol.specs.Lists.{concat}
use Rattle.protocol.specs.Alphabet.{Alphabet, sym as symbol, elem_at, Lawful}
use Rattle.protocol.specs.Shape.{Shape, l_of}
use Rattle.protocol.specs.Sections.{Sections}
use Rattle.protocol.specs.Forms.{hash}
use Rattle.protocol.specs.Prover.{u, v, correction, d_of, qs0, qs1, c_section, d_section, ũSection, ṼSection, qs0_section, qs1_section, sections_of}
use Rattle.protocol.specs.Verifier.{correction_at}
use Rattle.theorems.proofs.ListLaws.{table_congr}
use Rattle.theorems.proofs.HonestLaws.{shift_is, d_is, ũ_is, QS1_is}

module _ (A : Alphabet) (laws : Lawful A) (s : Shape) (key H' χ leaves x leaves' x' : List ℕ) where
  open A use {K, symbol_of, pack}
  open K use {base, byte}
  open base use {R}
  open R use {F, add as ◌⊕◌}

  infixl 65 ◌⊕◌
  abbrev P : Sections
  P = sections_of A s leaves key x H' χ

  abbrev P' : Sections
  P' = sections_of A s leaves' key x' H' χ

  -- ---- the same elements, the same sections

  pub same-C : ((e c : ℕ) → e < s.τ → c < l_of A s → correction A s leaves e c ≡ correction A s leaves' e c) → c_section A s leaves ≡ c_section A s leaves'
  unfolding c_section
  same-C h = ap concat (table_congr (s.τ - 1) _ _ (λ e l. laws.pack_congr (l_of A s) _ _ (λ c k. ap symbol_of (h (suc e) c (omega arith) k))))

  pub same_d : ((c : ℕ) → c < s.n → d_of A s leaves x c ≡ d_of A s leaves' x' c) → d_section A s leaves x ≡ d_section A s leaves' x'
  unfolding d_section
  same_d h = laws.pack_congr s.n _ _ (λ c l. ap symbol_of (h c l))

  pub same_ũ : ((ρ : ℕ) → ρ < s.t → hash A s H' ρ (u A s leaves 0) ≡ hash A s H' ρ (u A s leaves' 0)) → ũSection A s leaves H' ≡ ũSection A s leaves' H'
  unfolding ũSection
  same_ũ h = laws.pack_congr s.t _ _ (λ ρ l. ap symbol_of (h ρ l))

  pub same_Ṽ : ((e ρ : ℕ) → e < s.τ → ρ < s.t → hash A s H' ρ (v A s leaves e) ≡ hash A s H' ρ (v A s leaves' e)) → ṼSection A s leaves H' ≡ ṼSection A s leaves' H'
  unfolding ṼSection
  same_Ṽ h = ap concat (table_congr s.τ _ _ (λ e l. table_congr s.t _ _ (λ ρ k. ap byte (h e ρ l k))))

  pub same-QS0 : ((e : ℕ) → e < s.τ → qs0 A s leaves key χ e ≡ qs0 A s leaves' key χ e) → qs0_section A s leaves key χ ≡ qs0_section A s leaves' key χ
  unfolding qs0_section
  same-QS0 h = table_congr s.τ _ _ (λ e l. ap byte (h e l))

  pub same-QS1 : ((e : ℕ) → e < s.τ → qs1 A s leaves key x χ e ≡ qs1 A s leaves' key x' χ e) → qs1_section A s leaves key x χ ≡ qs1_section A s leaves' key x' χ
  unfolding qs1_section
  same-QS1 h = table_congr s.τ _ _ (λ e l. ap byte (h e l))

  -- ---- the same sections, the same elements

  module _ (same : P ≡ P') where
    cross : (a b c : F) → a ⊕ b ≡ c → a ⊕ c ≡ b
    cross a b c h = rw (← h) (simp ring)

    pub C-same : (e c : ℕ) → e < s.τ → c < l_of A s → u A s leaves e c ⊕ u A s leaves 0 c ≡ u A s leaves' e c ⊕ u A s leaves' 0 c
    C-same e c le l =
        cross _ _ _ (shift_is A laws s leaves key x H' χ e le c l) ∙ ap (λ p. correction_at A s p e c) same ∙ sym (cross _ _ _ (shift_is A laws s leaves' key x' H' χ e le c l))

    pub d_same : (c : ℕ) → c < s.n → symbol A x c ⊕ u A s leaves 0 c ≡ symbol A x' c ⊕ u A s leaves' 0 c
    d_same c l = sym (d_is A laws s leaves key x H' χ c l) ∙ ap (λ (p : Sections). symbol A p.d c) same ∙ d_is A laws s leaves' key x' H' χ c l

    pub ũ_same : (ρ : ℕ) → ρ < s.t → hash A s H' ρ (u A s leaves 0) ≡ hash A s H' ρ (u A s leaves' 0)
    ũ_same ρ l = sym (ũ_is A laws s leaves key x H' χ ρ l) ∙ ap (λ (p : Sections). symbol A p.ũ ρ) same ∙ ũ_is A laws s leaves' key x' H' χ ρ l

    pub QS1-same : (e : ℕ) → e < s.τ → qs1 A s leaves key x χ e ≡ qs1 A s leaves' key x' χ e
    QS1-same e l = sym (QS1_is A laws s leaves key x H' χ e l) ∙ ap (λ (p : Sections). elem_at A p.QS1 e) same ∙ QS1_is A laws s leaves' key x' H' χ e l
