-- The count of accepted challenge strings is the product of the factors.
-- Assumes nothing.
use mathlib.Core.Path.{◌≡◌, sym, ap, ◌∙◌}
use mathlib.Core.Bool.{true, ◌&&◌}
use mathlib.Core.List.{List, [], ◌∷◌, map}
use Prim.Native.Nat.{ℕ, ◌+◌, ◌*◌, ◌-◌, ◌<◌}
use native.Mathlib.Omega.{arith}
use lib.Dec.{leb}
use lib.ListN.{length, get_or, length-map}
use Rattle.algebra.specs.Count.{passes, product}
use Rattle.algebra.proofs.CountLaws.{count-words, words_congr}
use Rattle.protocol.specs.Lists.{all_below}
use Rattle.protocol.specs.Frames.{framed}
use Rattle.protocol.specs.Alphabet.{Alphabet, elements_in}
use Rattle.protocol.specs.Setting.{Setting, served, alphabet_of}
use Rattle.protocol.specs.Shape.{Shape, shape_of, limits, per_tree, per_opened, l_of, w_of}
use Rattle.protocol.specs.Key.{rows_spare, key_exact, key_spare}
use Rattle.protocol.specs.Sections.{Sections, lengths, sections_in}
use Rattle.protocol.specs.Leaves.{leaf_at, open_tree}
use Rattle.protocol.specs.Answers.{is_accepted}
use Rattle.protocol.specs.Questions.{h_exact, χExact, ΔExact, h_spare, leaves_exact, leaves_spare, proof_spare, proof_elements, tree_of, consistent_in, product_in}
use Rattle.protocol.specs.Calls.{verify_answer, well_formed_questions, well_formed}
use Rattle.protocol.specs.Counting.{opening, accepted_count, checks_at, factor}
use Rattle.theorems.proofs.TestLaws.{eqb_same, eqb_eq, and-true, all_true_lem, all-at, all_of, all_congr, all-and, passes-all}
use Rattle.theorems.proofs.ListLaws.{row-end, get_d_map, cut_at}
use Rattle.theorems.proofs.LeafLaws.{cut_opened, opened-length, opened-block}
use Rattle.theorems.proofs.AnswerLaws.{all_yes_lem, accepted-all}
use Rattle.theorems.proofs.ElementLaws.{elements-map}

module _ (A : Alphabet) where
  open A use {K, spare_zero}
  open K use {base, byte}
  open base use {R, size, elements}
  open R use {F, 𝟘}

  module _ (s : Shape) (leaves : List ℕ) (k7 : leaves_exact A s (per_tree A) leaves ≡ true) where
    pub leaves-length : length leaves ≡ s.τ * per_tree A * w_of A s
    unfolding leaves_exact
    leaves-length = eqb_eq _ _ k7

    module _ (Δ : List ℕ) (b : (e : ℕ) → e < s.τ → get_or Δ e 0 < per_tree A) where
      pub opened-exact : leaves_exact A s (per_opened A) (opening A s leaves Δ) ≡ true
      unfolding leaves_exact opening per_opened
      opened-exact = eqb_same _ _ (opened-length (per_tree A) (w_of A s) s.τ leaves leaves-length Δ b)

      pub tree_is : (e : ℕ) → e < s.τ → tree_of A s (opening A s leaves Δ) e ≡ open_tree (per_tree A) (w_of A s) leaves e (get_or Δ e 0)
      unfolding tree_of opening per_opened
      tree_is e le = opened-block (per_tree A) (w_of A s) s.τ leaves leaves-length Δ b e le

      module _ (k8 : leaves_spare A s (per_tree A) leaves ≡ true) where
        leaf-spare : (e j : ℕ) → e < s.τ → j < per_tree A → spare_zero (leaf_at (per_tree A) (w_of A s) leaves e j) (l_of A s) ≡ true
        unfolding leaves_spare rows_spare leaf_at w_of
        leaf-spare e j le lj = all-at (s.τ * per_tree A) _ k8 (e * per_tree A + j) (omega (arith, row-end e s.τ (per_tree A) le))

        pub opened-spare : leaves_spare A s (per_opened A) (opening A s leaves Δ) ≡ true
        unfolding leaves_spare rows_spare opening w_of per_opened
        opened-spare =
            all_of (s.τ * (per_tree A - 1)) _
            (cut_at (w_of A s) (s.τ * (per_tree A - 1)) (λ z. spare_zero z (l_of A s)) _ (cut_opened (per_tree A) (w_of A s) s.τ leaves leaves-length (λ z. spare_zero z (l_of A s)) leaf-spare Δ b))

module _ (g : Setting) where
  abbrev A : Alphabet
  A = alphabet_of g

  open A use {K}
  open K use {base, byte}
  open base use {R, size, elements}
  open R use {F, 𝟘}

  -- what well-formed says, question by question
  pub record Form (s : Shape) (key leaves H' χ proof : List ℕ) : Type 0 where
    pub k16 : served g ≡ true
    pub k1 : leb 8 (length key) ≡ true
    pub k2 : limits s ≡ true
    pub k3 : key_exact A s key ≡ true
    pub k4 : key_spare A s key ≡ true
    pub k5_h : h_exact A s H' ≡ true
    pub k5χ : χExact A s χ ≡ true
    pub k6 : h_spare A s H' ≡ true
    pub k17 : elements_in A χ ≡ true
    pub k7 : leaves_exact A s (per_tree A) leaves ≡ true
    pub k8 : leaves_spare A s (per_tree A) leaves ≡ true
    pub k12 : framed (lengths A s) proof ≡ true
    pub k13 : proof_spare A s (sections_in A s proof) ≡ true
    pub k18 : proof_elements A s (sections_in A s proof) ≡ true

  pub form_of : (key leaves H' χ proof : List ℕ) → well_formed g key leaves H' χ proof ≡ true → Form (shape_of key) key leaves H' χ proof
  unfolding well_formed
  form_of key leaves H' χ proof h =
      let s = shape_of key in
      let t = all_yes_lem (well_formed_questions g key leaves H' χ proof) h in
      let f = all_true_lem (h_exact A s H' ∷ χExact A s χ ∷ []) t.1.1.1.1.1.0 in
      let r = t.1.1.1.1.1.1 in
      record {
        k16 = t.0;
        k1 = t.1.0;
        k2 = t.1.1.0;
        k3 = t.1.1.1.0;
        k4 = t.1.1.1.1.0;
        k5_h = f.0;
        k5χ = f.1.0;
        k6 = r.0;
        k17 = (all_true_lem (elements_in A χ ∷ []) r.1.0).0;
        k7 = r.1.1.0;
        k8 = r.1.1.1.0;
        k12 = r.1.1.1.1.0;
        k13 = r.1.1.1.1.1.0;
        k18 = r.1.1.1.1.1.1.0;
      }

  module _ (key leaves H' χ proof : List ℕ) (f : Form (shape_of key) key leaves H' χ proof) (Δ : List F) (n : length Δ ≡ (shape_of key).τ) where
    abbrev s : Shape
    s = shape_of key

    abbrev p : Sections
    p = sections_in A s proof

    abbrev Δᵇ : List ℕ
    Δᵇ = map byte Δ

    abbrev opened : List ℕ
    opened = opening A s leaves Δᵇ

    byte-at : (e : ℕ) → e < s.τ → get_or Δᵇ e 0 ≡ byte (get_or Δ e 𝟘)
    byte-at e le = get_d_map byte Δ e 𝟘 0 (omega arith)

    below : (e : ℕ) → e < s.τ → get_or Δᵇ e 0 < per_tree A
    unfolding per_tree
    below e le = rw (byte-at e le) (K.byte_lt (get_or Δ e 𝟘))

    Δ_exact : ΔExact A s Δᵇ ≡ true
    unfolding ΔExact
    Δ_exact = eqb_same _ _ (length-map Δ byte ∙ n)

    two : is_accepted (verify_answer g key Δᵇ H' χ opened proof) ≡ (all_below s.τ (consistent_in A s Δᵇ H' opened proof) && (all_below s.τ (product_in A s key Δᵇ χ opened proof) && true))
    unfolding verify_answer
    two =
        accepted-all _
        ∙ rw (f.k16, f.k1, f.k2, f.k3, f.k4, Δ_exact, f.k5_h, f.k5χ, f.k6, elements-map A Δ, f.k17, opened-exact A s leaves f.k7 Δᵇ below, opened-spare A s leaves f.k7 Δᵇ below f.k8, f.k12, f.k13, f.k18)

    at_e : (e : ℕ) → e < s.τ → (consistent_in A s Δᵇ H' opened proof e && product_in A s key Δᵇ χ opened proof e) ≡ checks_at A key leaves H' χ s p e (byte (get_or Δ e 𝟘))
    unfolding consistent_in product_in checks_at
    at_e e le = rw (tree_is A s leaves f.k7 Δᵇ below e le, byte-at e le)

    pub splits : is_accepted (verify_answer g key (map byte Δ) H' χ (opening A (shape_of key) leaves (map byte Δ)) proof)
        ≡ passes (λ e x. checks_at A key leaves H' χ (shape_of key) (sections_in A (shape_of key) proof) e (byte x)) Δ
    splits =
        two
        ∙ ap (λ b. all_below s.τ (consistent_in A s Δᵇ H' opened proof) && b) (and-true _)
        ∙ all-and s.τ (consistent_in A s Δᵇ H' opened proof) (product_in A s key Δᵇ χ opened proof)
        ∙ all_congr s.τ _ (λ e. checks_at A key leaves H' χ s p e (byte (get_or Δ e 𝟘))) at_e
        ∙ ap (λ k. all_below k (λ e. checks_at A key leaves H' χ s p e (byte (get_or Δ e 𝟘)))) (sym n)
        ∙ sym (passes-all (λ e x. checks_at A key leaves H' χ s p e (byte x)) Δ 𝟘)

  pub count-product : (key leaves H' χ proof : List ℕ) → Form (shape_of key) key leaves H' χ proof
      → accepted_count g key leaves H' χ proof ≡ product (shape_of key).τ (factor A key leaves H' χ proof)
  unfolding accepted_count factor
  count-product key leaves H' χ proof f =
      words_congr elements (shape_of key).τ _ (passes (λ e x. checks_at A key leaves H' χ (shape_of key) (sections_in A (shape_of key) proof) e (byte x))) (λ Δ n. splits key leaves H' χ proof f Δ n)
      ∙ count-words elements (shape_of key).τ (λ e x. checks_at A key leaves H' χ (shape_of key) (sections_in A (shape_of key) proof) e (byte x))
