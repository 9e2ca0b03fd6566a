-- What the forms, the batched sums and the masks are in 01's terms, where the bytes g are a vector f; and so QS0 and
-- QS1.
-- Assumes nothing.
use mathlib.Core.Path.{◌≡◌, sym, ap, ap₂, ◌∙◌}
use mathlib.Core.Bool.{cond}
use mathlib.Core.List.{List}
use Prim.Native.Nat.{ℕ, ◌+◌, ◌*◌, ◌<◌}
use native.Mathlib.Omega.{arith}
use lib.Bits.{bit_xor, xor_comm}
use Rattle.algebra.specs.Coded.{Coded, mul_byte, pow_byte}
use Rattle.algebra.specs.Sum.{sum, power}
use Rattle.algebra.proofs.RingLaws.{ring}
use Rattle.algebra.proofs.SumLaws.{sum-add}
use Rattle.galois.specs.Degrees.{field_of, degree_of, mask_element_of}
use Rattle.protocol.specs.Lists.{block_at}
use Rattle.protocol.specs.Strings.{bytes_for, bit}
use Rattle.protocol.specs.Alphabet.{Alphabet, sym as symbol, elem_at}
use Rattle.protocol.specs.Binary.{binary}
use Rattle.protocol.specs.Shape.{Shape, mask_at, k_of}
use Rattle.protocol.specs.Key.{section_a, section_b, a_sym, b_sym}
use Rattle.protocol.specs.Forms.{α, quad, lin, middle, mask_of, χAt, batch}
use Rattle.protocol.specs.Prover.{u, v, a₀, a₁, qs0, qs1}
use Rattle.theorems.proofs.ListLaws.{row-end, block-block}
use Rattle.theorems.proofs.TestLaws.{ltb_yes}
use Rattle.theorems.proofs.StringLaws.{bit_lt}
use Rattle.strings.specs.Sums.{byte_at, xor_sum}
use Rattle.strings.proofs.SumLaws.{sum_same}
use Rattle.strings.proofs.Meaning.{byte-sum, byte-scale}
use Rattle.strings.proofs.ProductLaws.{product_lt, product-sum}
use Rattle.lanes.specs.Lanes.{lane_at, mask_lane, mask_bits}
use Rattle.equations.specs.Equations.{row_of, matrix_of}
use Rattle.forms.specs.Forms.{row_bit}
use Rattle.forms.specs.Batch.{forms_byte, middles_byte}
use Rattle.equations.proofs.ElementLaws.{byte-product, byte-form, form-rows, bits_of}

module _ (C : Coded) (s : Shape) where
  open C use {base, elem, byte}
  open base use {R}
  open R use {F, 𝟘, add as ◌⊕◌, mul as ◌⊗◌}

  infixl 65 ◌⊕◌
  infixl 70 ◌⊗◌
  abbrev A : Alphabet
  A = binary C

  abbrev n : ℕ
  n = s.n

  -- a row of bits times a vector
  pub row-sum : (k : ℕ) (row : List ℕ) (g : ℕ → ℕ) (f : ℕ → F) → ((c : ℕ) → c < k → g c ≡ byte (f c)) → row_bit k row g ≡ byte (sum R k (λ c. bits_of C row c ⊗ f c))
  row-sum k row g f holds =
      sum_same k _ _ (λ c h. ap (λ b. bit row c * b) (holds c h) ∙ sym (byte-scale C (bit row c) (f c) (bit_lt row c)))
      ∙ sym (byte-sum C k (λ c. bits_of C row c ⊗ f c))

  module _ (key : List ℕ) (i : ℕ) (g : ℕ → ℕ) (f : ℕ → F) (holds : (c : ℕ) → c < s.n → g c ≡ byte (f c)) where
    -- row ρ of the equation, in the code and in the definitions
    abbrev row : ℕ → List ℕ
    row ρ = row_of n (matrix_of n (section_a A s key) i) ρ

    abbrev line : ℕ → List ℕ
    line ρ = block_at (section_a A s key) (bytes_for n) (i * n + ρ)

    same_row : (ρ : ℕ) → ρ < n → row ρ ≡ line ρ
    same_row ρ h = block-block (section_a A s key) n (bytes_for n) i ρ h

    abbrev times : (ℕ → F) → ℕ → F
    times g ρ = sum R n (λ c. bits_of C (line ρ) c ⊗ g c)

    row_is : (ρ : ℕ) → ρ < n → row_bit n (row ρ) g ≡ byte (times f ρ)
    row_is ρ h = ap (λ r. row_bit n r g) (same_row ρ h) ∙ row-sum n (line ρ) g f holds

    pub form_is : xor_sum n (λ ρ. mul_byte C (g ρ) (row_bit n (row ρ) g)) ≡ byte (quad A s key i f f)
    unfolding quad a_sym symbol
    form_is =
        sum_same n _ _ (λ ρ h. ap₂ (mul_byte C) (holds ρ h) (row_is ρ h) ∙ sym (byte-product C (f ρ) (times f ρ)))
        ∙ sym (byte-form C n (λ ρ c. bits_of C (line ρ) c) f f)

    pub lin_is : row_bit n (row_of n (section_b A s key) i) g ≡ byte (lin A s key i f)
    unfolding lin b_sym symbol
    lin_is = row-sum n (row_of n (section_b A s key) i) g f holds

    module _ (x : List ℕ) where
      row_bit_is : (ρ : ℕ) → ρ < n → row_bit n (row ρ) (bit x) * g ρ ≡ byte (f ρ ⊗ times (bits_of C x) ρ)
      row_bit_is ρ h =
          ap₂ (λ r z. row_bit n r (bit x) * z) (same_row ρ h) (holds ρ h)
          ∙ sym (byte-scale C (row_bit n (line ρ) (bit x)) (f ρ) (product_lt n (line ρ) x))
          ∙ ap byte (ap (λ z. z ⊗ f ρ) (ap elem (sym (product-sum C n (line ρ) x)) ∙ C.elem-byte _) ∙ R.mul_comm (times (bits_of C x) ρ) (f ρ))

      cross_is : xor_sum n (λ ρ. bit_xor (bit x ρ * row_bit n (row ρ) g) (row_bit n (row ρ) (bit x) * g ρ)) ≡ byte (quad A s key i (symbol A x) f ⊕ quad A s key i f (symbol A x))
      unfolding quad a_sym symbol
      cross_is =
          sum_same n _ (λ ρ. byte (bits_of C x ρ ⊗ times f ρ ⊕ f ρ ⊗ times (bits_of C x) ρ))
          (λ ρ h. ap₂ bit_xor (ap (λ z. bit x ρ * z) (row_is ρ h) ∙ sym (byte-scale C (bit x ρ) (times f ρ) (bit_lt x ρ))) (row_bit_is ρ h) ∙ sym (C.byte-add _ _))
          ∙ sym (byte-sum C n _)
          ∙ ap byte (sum-add R n (λ ρ. bits_of C x ρ ⊗ times f ρ) (λ ρ. f ρ ⊗ times (bits_of C x) ρ) ∙ ap₂ ◌⊕◌ (sym (form-rows C n _ (bits_of C x) f)) (sym (form-rows C n _ f (bits_of C x))))

      order : (p q r : F) → r ⊕ (p ⊕ q) ≡ q ⊕ p ⊕ r
      order p q r = simp ring

      pub middle_is : bit_xor (row_bit n (row_of n (section_b A s key) i) g) (xor_sum n (λ ρ. bit_xor (bit x ρ * row_bit n (row ρ) g) (row_bit n (row ρ) (bit x) * g ρ)))
          ≡ byte (middle A s key i f (symbol A x))
      unfolding middle
      middle_is =
          ap₂ bit_xor lin_is cross_is ∙ sym (C.byte-add _ _)
          ∙ ap byte (order (quad A s key i (symbol A x) f) (quad A s key i f (symbol A x)) (lin A s key i f))

  pub batch_is : (χ : List ℕ) (e : ℕ) (f : ℕ → ℕ) (g : ℕ → F) → ((i : ℕ) → f i ≡ byte (g i)) → xor_sum s.m (λ i. mul_byte C (byte_at χ (e * s.m + i)) (f i)) ≡ byte (batch A s χ e g)
  unfolding batch χAt elem_at
  batch_is χ e f g h =
      sum_same s.m _ _ (λ i l. ap (λ z. byte (elem (byte_at χ (e * s.m + i)) ⊗ z)) (ap elem (h i) ∙ C.elem-byte (g i)))
      ∙ sym (byte-sum C s.m (λ i. elem (byte_at χ (e * s.m + i)) ⊗ g i))

-- ---- at the field of a degree, which the code computes in

module _ (d : ℕ) (s : Shape) where
  abbrev K : Coded
  K = field_of d

  abbrev bits : Alphabet
  bits = binary K

  mask_element_lem : (i : ℕ) → i < degree_of d → mask_element_of d i ≡ pow_byte K 2 i
  unfolding mask_element_of
  mask_element_lem i h = ap (λ b. cond b (pow_byte K 2 i) 0) (ltb_yes i (degree_of d) h)

  -- the mask coordinates of a repetition are among the first k
  mask_in : (e i : ℕ) → e < s.τ → i < degree_of d → mask_at bits s e + i < k_of bits s
  unfolding mask_at k_of degree_of
  mask_in e i le h = omega (arith, row-end e s.τ K.degree le)

  -- the mask coordinates, of a lane or of a string
  pub mask_is : (e : ℕ) (g : ℕ → ℕ) (f : ℕ → K.base.R.F) → e < s.τ → ((c : ℕ) → c < k_of bits s → g c ≡ K.byte (f c))
      → xor_sum (degree_of d) (λ i. mul_byte K (mask_element_of d i) (g (mask_at bits s e + i))) ≡ K.byte (mask_of bits s e f)
  unfolding mask_of α degree_of
  mask_is e g f le h =
      sum_same K.degree _ _
      (λ i l. ap₂ (mul_byte K) (mask_element_lem i l) (h (mask_at bits s e + i) (mask_in e i le l))
      ∙ sym (byte-product K (power K.base.R (K.elem 2) i) (f (mask_at bits s e + i))))
      ∙ sym (byte-sum K K.degree (λ i. K.base.R.mul (power K.base.R (K.elem 2) i) (f (mask_at bits s e + i))))

  -- QS0 and QS1: the mask, and what is added to it
  module _ (leaves key χ T : List ℕ) (e : ℕ) (le : e < s.τ) (holds : (c : ℕ) → c < k_of bits s → lane_at T c e ≡ K.byte (v bits s leaves e c))
      (g : ℕ → ℕ) (front : (c : ℕ) → c < s.n → g c ≡ K.byte (v bits s leaves e c)) where
    pub qs0_is : bit_xor (mask_lane d T (mask_at bits s e) e) (forms_byte d s.n s.m (section_a bits s key) χ e g) ≡ K.byte (qs0 bits s leaves key χ e)
    unfolding qs0 a₀
    qs0_is =
        xor_comm (mask_lane d T (mask_at bits s e) e) (forms_byte d s.n s.m (section_a bits s key) χ e g)
        ∙ ap₂ bit_xor (batch_is K s χ e _ (λ i. quad bits s key i (v bits s leaves e) (v bits s leaves e)) (λ i. form_is K s key i g (v bits s leaves e) front))
        (mask_is e (λ c. lane_at T c e) (v bits s leaves e) le holds)
        ∙ sym (K.byte-add _ _)

    pub qs1_is : (x us : List ℕ) → ((c : ℕ) → c < k_of bits s → bit us c ≡ K.byte (u bits s leaves 0 c))
        → bit_xor (mask_bits d us (mask_at bits s e)) (middles_byte d s.n s.m (section_a bits s key) (section_b bits s key) (bit x) χ e g) ≡ K.byte (qs1 bits s leaves key x χ e)
    unfolding qs1 a₁
    qs1_is x us are =
        xor_comm (mask_bits d us (mask_at bits s e)) (middles_byte d s.n s.m (section_a bits s key) (section_b bits s key) (bit x) χ e g)
        ∙ ap₂ bit_xor (batch_is K s χ e _ (λ i. middle bits s key i (v bits s leaves e) (symbol bits x)) (λ i. middle_is K s key i g (v bits s leaves e) front x))
        (mask_is e (bit us) (u bits s leaves 0) le are)
        ∙ sym (K.byte-add _ _)
