-- What the product check on bytes is in 01's terms, where a table holds the verifier's vectors in its lanes.
-- Assumes nothing.
use mathlib.Core.Path.{◌≡◌, refl, sym, ap, ap₂, ◌∙◌}
use mathlib.Core.List.{List}
use Prim.Native.Nat.{ℕ, ◌+◌, ◌*◌, ◌≤◌, ◌<◌}
use native.Mathlib.Nat.{mul_comm}
use native.Mathlib.Omega.{arith}
use lib.Dec.{eqb}
use lib.ListN.{length}
use lib.Bits.{bit_xor, xor_comm}
use Rattle.algebra.specs.Ring.{Ring}
use Rattle.algebra.specs.Coded.{Coded, mul_byte}
use Rattle.algebra.specs.Sum.{sum}
use Rattle.algebra.proofs.RingLaws.{ring}
use Rattle.algebra.proofs.SumLaws.{sum_ext, sum-add, sum-mul}
use Rattle.galois.specs.Degrees.{degree_of, mask_element_of}
use Rattle.protocol.specs.Strings.{bit}
use Rattle.protocol.specs.Alphabet.{Alphabet, sym as symbol, elem_at}
use Rattle.protocol.specs.Setting.{Setting, alphabet_of}
use Rattle.protocol.specs.Shape.{Shape, mask_at, k_of, l_of}
use Rattle.protocol.specs.Key.{section_a, section_b, section_y, y_sym}
use Rattle.protocol.specs.Forms.{quad, lin, y_of, mask_of, χAt, batch}
use Rattle.protocol.specs.Sections.{Sections, sections_in}
use Rattle.protocol.specs.Questions.{tree_of, product_in}
use Rattle.protocol.specs.Verifier.{W, key_at, product_left, product_holds, product_at}
use Rattle.theorems.proofs.StringLaws.{bit_lt}
use Rattle.strings.specs.Sums.{byte_at}
use Rattle.strings.proofs.SumLaws.{sum_same}
use Rattle.strings.proofs.Meaning.{byte-sum, byte-times}
use Rattle.lanes.specs.Lanes.{lane_at, mask_lane}
use Rattle.format.proofs.FitLaws.{mask_below, k_below}
use Rattle.forms.proofs.FormsMeaning.{form_is, lin_is, batch_is, mask_is}
use Rattle.tables_opened.specs.Opened.{Opened}
use Rattle.tables.proofs.SumsMeaning.{same_bytes}
use Rattle.tables_opened.proofs.OpenedMeaning.{opened-lane}
use Rattle.std.specs.Prelude.{Option}
use Rattle.format.specs.First.{FirstOf}
use Rattle.format.proofs.FirstLaws.{first_same}
use Rattle.verifier_product.specs.Product.{value_byte, product_byte, masked_byte, FirstInRow}

-- a sum of products with three parts
module _ (R : Ring) where
  open R use {add as ◌⊞◌, mul as ◌⊠◌}

  infixl 65 ◌⊞◌
  infixl 70 ◌⊠◌
  part_of : (c f g y d : R.F) → c ⊠ (f ⊞ d ⊠ g ⊞ y ⊠ (d ⊠ d)) ≡ c ⊠ f ⊞ d ⊠ (c ⊠ g) ⊞ (d ⊠ d) ⊠ (c ⊠ y)
  part_of c f g y d = simp ring

  sums_apart : (n : ℕ) (c f g y : ℕ → R.F) (d : R.F)
      → sum R n (λ i. c i ⊠ (f i ⊞ d ⊠ g i ⊞ y i ⊠ (d ⊠ d))) ≡ sum R n (λ i. c i ⊠ f i) ⊞ d ⊠ sum R n (λ i. c i ⊠ g i) ⊞ (d ⊠ d) ⊠ sum R n (λ i. c i ⊠ y i)
  sums_apart n c f g y d =
      sum_ext R n _ (λ i. c i ⊠ f i ⊞ d ⊠ (c i ⊠ g i) ⊞ (d ⊠ d) ⊠ (c i ⊠ y i)) (λ i. part_of (c i) (f i) (g i) (y i) d)
      ∙ sum-add R n (λ i. c i ⊠ f i ⊞ d ⊠ (c i ⊠ g i)) (λ i. (d ⊠ d) ⊠ (c i ⊠ y i))
      ∙ ap₂ ◌⊞◌ (sum-add R n (λ i. c i ⊠ f i) (λ i. d ⊠ (c i ⊠ g i)) ∙ ap (λ z. sum R n (λ i. c i ⊠ f i) ⊞ z) (sum-mul R n d (λ i. c i ⊠ g i))) (sum-mul R n (d ⊠ d) (λ i. c i ⊠ y i))

module _ (g : Setting) where
  abbrev A : Alphabet
  A = alphabet_of g

  abbrev C : Coded
  C = A.K

  open C use {base, elem, byte}
  open base use {R, size}
  open R use {F, add as ◌⊕◌, mul as ◌⊗◌}

  infixl 65 ◌⊕◌
  infixl 70 ◌⊗◌
  module _ (s : Shape) (p : Sections) (e δ : ℕ) (small : δ < size) (w : ℕ → F) where
    module _ (key χ : List ℕ) (f : ℕ → ℕ) (front : (c : ℕ) → c < s.n → f c ≡ byte (key_at A s p (elem δ) w c)) where
      abbrev K : ℕ → F
      K = key_at A s p (elem δ) w

      abbrev forms : ℕ → F
      forms i = quad A s key i K K

      abbrev linear : ℕ → F
      linear i = lin A s key i K

      abbrev whole : ℕ → F
      whole i = forms i ⊕ elem δ ⊗ linear i ⊕ y_of A s key i ⊗ (elem δ ⊗ elem δ)

      -- the parts of each equation, batched apart
      apart : batch A s χ e whole ≡ batch A s χ e forms ⊕ elem δ ⊗ batch A s χ e linear ⊕ (elem δ ⊗ elem δ) ⊗ batch A s χ e (y_of A s key)
      unfolding batch
      apart = sums_apart R s.m (χAt A s χ e) forms linear (y_of A s key) (elem δ)

      values_are : ((i : ℕ) → byte_at χ i < size) → value_byte s.m χ (section_y A s key) e ≡ byte (batch A s χ e (y_of A s key))
      unfolding batch χAt elem_at y_of y_sym symbol
      values_are bytes =
          sum_same s.m _ _ (λ i l. sym (byte-times C (byte_at χ (e * s.m + i)) (bit (section_y A s key) i) (bytes (e * s.m + i)) (bit_lt (section_y A s key) i)))
          ∙ sym (byte-sum C s.m _)

      product_is : ((i : ℕ) → byte_at χ i < size) → product_byte g.degree s.n s.m (section_a A s key) (section_b A s key) (section_y A s key) χ e δ f ≡ byte (batch A s χ e whole)
      product_is bytes =
          ap₂ bit_xor
          (ap₂ bit_xor (batch_is C s χ e _ forms (λ i. form_is C s key i f K front))
          (ap (mul_byte C δ) (batch_is C s χ e _ linear (λ i. lin_is C s key i f K front)) ∙ ap (λ z. byte (elem δ ⊗ z)) (C.elem-byte (batch A s χ e linear)))
          ∙ sym (C.byte-add _ _))
          (ap (mul_byte C (mul_byte C δ δ)) (values_are bytes) ∙ ap₂ (λ y z. byte (y ⊗ z)) (C.elem-byte (elem δ ⊗ elem δ)) (C.elem-byte (batch A s χ e (y_of A s key))))
          ∙ sym (C.byte-add _ _) ∙ ap byte (sym apart)

      -- the mask stands in the lane of a table, from coordinate n on
      module _ (T : List ℕ) (le : e < s.τ) (masked : (c : ℕ) → s.n ≤ c → c < k_of A s → lane_at T c e ≡ byte (w c)) where
        mask-above : s.n ≤ mask_at A s e
        unfolding mask_at
        mask-above = omega arith

        mask-of : (i : ℕ) → i < degree_of g.degree → lane_at T (mask_at A s e + i) e ≡ byte (w (mask_at A s e + i))
        unfolding degree_of
        mask-of i h = masked (mask_at A s e + i) (omega (arith, mask-above)) (omega (arith, h, mask_below g s e le))

        masked_is : mask_lane g.degree T (mask_at A s e) e ≡ byte (mask_of A s e w)
        masked_is = sum_same (degree_of g.degree) _ _ (λ i h. ap (mul_byte C (mask_element_of g.degree i)) (mask-of i h)) ∙ mask_is g.degree s e (λ c. byte (w c)) w le (λ c h. refl)

        left_is : ((i : ℕ) → byte_at χ i < size)
            → masked_byte g s (section_a A s key) (section_b A s key) (section_y A s key) χ e δ T f ≡ byte (product_left A s key χ p e (elem δ) w)
        unfolding product_left
        left_is bytes =
            xor_comm (mask_lane g.degree T (mask_at A s e) e) (product_byte g.degree s.n s.m (section_a A s key) (section_b A s key) (section_y A s key) χ e δ f)
            ∙ ap₂ bit_xor (product_is bytes) masked_is
            ∙ sym (C.byte-add _ _)

        holds_is : ((i : ℕ) → byte_at χ i < size) → (left : List ℕ)
            → byte_at left e ≡ masked_byte g s (section_a A s key) (section_b A s key) (section_y A s key) χ e δ T f → byte_at p.QS0 e < size
            → eqb (byte_at left e) (bit_xor (byte_at p.QS0 e) (mul_byte C (byte_at p.QS1 e) δ)) ≡ product_holds A s key χ p e (elem δ) w
        unfolding product_holds elem_at
        holds_is bytes left lefts byte =
            ap₂ eqb (lefts ∙ left_is bytes) (ap (λ (x : ℕ). bit_xor x (mul_byte C (byte_at p.QS1 e) δ)) (sym (C.byte-elem _ byte)) ∙ sym (C.byte-add _ _)) ∙ same_bytes C _ _

  module _ (s : Shape) (Δ opened proof T : List ℕ) (is : Opened A s Δ opened proof T) (long : length Δ ≡ s.τ) (challenges : (i : ℕ) → byte_at Δ i < size) where
    abbrev p : Sections
    p = sections_in A s proof

    abbrev w : ℕ → ℕ → F
    w e = W A s p e (byte_at Δ e) (tree_of A s opened e)

    holds : (e c : ℕ) → e < s.τ → c < l_of A s → lane_at T c e ≡ byte (w e c)
    holds = opened-lane g s Δ opened proof T is challenges

    -- K_e are the vectors f, and the mask coordinates of another table are those of W_e
    module _ (challenge T' : List ℕ) (f : ℕ → ℕ → ℕ) (same : (e : ℕ) → e < s.τ → byte_at challenge e ≡ byte_at Δ e)
        (changed : (e c : ℕ) → e < s.τ → c < s.n → f e c ≡ bit_xor (lane_at T c e) (bit p.d c * byte_at challenge e))
        (stays : (e c : ℕ) → e < s.τ → s.n ≤ c → lane_at T' c e ≡ lane_at T c e) where
      in_k : (c : ℕ) → c < s.n → c < k_of A s
      unfolding k_of
      in_k c h = omega (arith, h)

      front : (e : ℕ) → e < s.τ → (c : ℕ) → c < s.n → f e c ≡ byte (key_at A s p (elem (byte_at Δ e)) (w e) c)
      unfolding key_at symbol
      front e l c h =
          changed e c l h
          ∙ ap₂ bit_xor (holds e c l (k_below g s c (in_k c h)))
          (ap (λ z. bit p.d c * z) (same e l) ∙ mul_comm (bit p.d c) (byte_at Δ e) ∙ sym (byte-times C (byte_at Δ e) (bit p.d c) (challenges e) (bit_lt p.d c)))
          ∙ sym (C.byte-add _ _)

      pub first_differing_is : (key χ left : List ℕ) → ((i : ℕ) → byte_at χ i < size) → ((i : ℕ) → byte_at p.QS0 i < size)
          → ((e : ℕ) → e < s.τ → byte_at left e ≡ masked_byte g s (section_a A s key) (section_b A s key) (section_y A s key) χ e (byte_at challenge e) T' (f e))
          → (first : Option ℕ) → FirstInRow g.degree left p.QS0 p.QS1 Δ first → FirstOf s.τ (product_in A s key Δ χ opened proof) first
      unfolding product_in product_at
      first_differing_is key χ left bytes sent lefts first is =
          first_same (length Δ) s.τ _ _ first long
          (λ e l.
          holds_is s p e (byte_at Δ e) (challenges e) (w e) key χ (f e) (front e l) T' l (λ c low h. stays e c l low ∙ holds e c l (k_below g s c h)) bytes left
          (lefts e l ∙ ap (λ z. masked_byte g s (section_a A s key) (section_b A s key) (section_y A s key) χ e z T' (f e)) (same e l)) (sent e))
          is
