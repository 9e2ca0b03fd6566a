-- What the errors are in 01's terms: those of the equations of the key at the witness; and what the first of them that
-- is not 0 says.
-- Assumes nothing.
use mathlib.Core.Path.{◌≡◌, sym, ap, ap₂, ◌∙◌}
use mathlib.Core.Logic.{◌≢◌}
use mathlib.Core.Bool.{true, false, true≢false}
use mathlib.Core.List.{List}
use Prim.Native.Nat.{ℕ, ◌+◌, ◌*◌, ◌<◌}
use native.Mathlib.Omega.{arith}
use lib.ListN.{length}
use Rattle.std.proofs.Common.{Some, None}
use lib.Bits.{bit_xor}
use Rattle.algebra.specs.Coded.{Coded}
use Rattle.algebra.specs.Sum.{sum}
use Rattle.algebra.proofs.FieldLaws.{eqb-true}
use Rattle.protocol.specs.Lists.{block_at, first_not}
use Rattle.protocol.specs.Strings.{bytes_for, bit, spare_zero}
use Rattle.protocol.specs.Alphabet.{Alphabet, sym as symbol}
use Rattle.protocol.specs.Binary.{binary}
use Rattle.protocol.specs.Shape.{Shape}
use Rattle.protocol.specs.Key.{section_a, section_b, section_y, a_sym, b_sym, y_sym}
use Rattle.protocol.specs.Forms.{quad, lin, y_of, error}
use Rattle.protocol.specs.Questions.{equation_holds, solves}
use Rattle.theorems.proofs.TestLaws.{T_true, T_false, all_of, all-at, first-at}
use Rattle.theorems.proofs.ListLaws.{block-block}
use Rattle.theorems.proofs.StringLaws.{bit_lt}
use Rattle.strings.specs.Sums.{byte_at, xor_sum}
use Rattle.strings.proofs.SumLaws.{sum_same}
use Rattle.strings.proofs.Meaning.{byte-bit, byte-scale}
use Rattle.equations.specs.Equations.{row_product, row_of, error_bit, key_error, FirstIn}
use Rattle.equations.proofs.ElementLaws.{byte-form, product_is, bits_of}

module _ (C : Coded) (s : Shape) (key x : List ℕ) where
  open C use {base, elem, byte}
  open base use {R}
  open R use {F, 𝟘, add as ◌⊕◌, mul as ◌⊗◌}

  infixl 65 ◌⊕◌
  infixl 70 ◌⊗◌
  abbrev A : Alphabet
  A = binary C

  abbrev n : ℕ
  n = s.n

  abbrev w : ℕ
  w = bytes_for s.n

  -- row ρ of equation i
  abbrev row : ℕ → ℕ → List ℕ
  row i ρ = block_at (section_a A s key) w (i * n + ρ)

  module _ (spare : spare_zero x s.n ≡ true) where
    quad_at_lem : (i : ℕ) → xor_sum n (λ ρ. bit x ρ * row_product (row_of n (block_at (section_a A s key) (n * w) i) ρ) x) ≡ byte (quad A s key i (symbol A x) (symbol A x))
    unfolding quad a_sym symbol
    quad_at_lem i =
        sum_same n _ _ (λ ρ h.
        ap (λ r. bit x ρ * row_product r x) (block-block (section_a A s key) n w i ρ h)
        ∙ ap (λ z. bit x ρ * z) (product_is C (row i ρ) x n spare)
        ∙ sym (byte-scale C (bit x ρ) (sum R n (λ c. bits_of C (row i ρ) c ⊗ bits_of C x c)) (bit_lt x ρ)))
        ∙ sym (byte-form C n (λ ρ c. bits_of C (row i ρ) c) (bits_of C x) (bits_of C x))

    lin-at : (i : ℕ) → row_product (block_at (section_b A s key) w i) x ≡ byte (lin A s key i (symbol A x))
    unfolding lin b_sym symbol
    lin-at i = product_is C (block_at (section_b A s key) w i) x n spare

    y_at : (i : ℕ) → bit (section_y A s key) i ≡ byte (y_of A s key i)
    unfolding y_of y_sym symbol
    y_at i = sym (byte-bit C (bit (section_y A s key) i) (bit_lt (section_y A s key) i))

    pub error_is : (i : ℕ) → key_error n (section_a A s key) (section_b A s key) (section_y A s key) x i ≡ byte (error A s key i (symbol A x))
    unfolding key_error error_bit error
    error_is i =
        ap₂ bit_xor (ap₂ bit_xor (quad_at_lem i) (lin-at i) ∙ sym (C.byte-add _ _)) (y_at i)
        ∙ sym (C.byte-add (quad A s key i (symbol A x) (symbol A x) ⊕ lin A s key i (symbol A x)) (y_of A s key i))

    -- ---- a string of the errors

    module _ (errors : List ℕ) (long : length errors ≡ s.m)
        (are : (i : ℕ) → i < length errors → byte_at errors i ≡ key_error n (section_a A s key) (section_b A s key) (section_y A s key) x i) where
      holds_at : (i : ℕ) → i < s.m → byte_at errors i ≡ 0 → equation_holds A s key x i ≡ true
      holds_at i h z = eqb-true base _ 𝟘 (sym (C.elem-byte _) ∙ ap elem (sym (are i (omega arith) ∙ error_is i) ∙ z) ∙ C.elem-zero)

      fails-at : (i : ℕ) → i < s.m → byte_at errors i ≢ 0 → equation_holds A s key x i ≡ false
      fails-at i h n = T_false _ (λ t. n (are i (omega arith) ∙ error_is i ∙ ap byte (base.eqb_sound _ 𝟘 (T_true _ t) ∙ sym C.elem-zero) ∙ byte-bit C 0 (omega arith)))

      pub none-solves : FirstIn errors None → solves A s key x ≡ true
      unfolding solves
      none-solves f = all_of s.m _ (λ i h. holds_at i h (f i (omega arith)))

      -- the first error that is not 0 is that of the first equation that fails, and the witness does not solve the
      -- system
      pub first-named : (i : ℕ) → FirstIn errors (Some i) → first_not s.m (equation_holds A s key x) ≡ i
      first-named i f =
          let l : i < s.m = omega (arith, f.0) in
          first-at s.m (equation_holds A s key x) i l (λ k h. holds_at k (omega (arith, h, l)) (f.2 k h)) (fails-at i l f.1)

      pub first_refutes : (i : ℕ) → FirstIn errors (Some i) → solves A s key x ≡ false
      unfolding solves
      first_refutes i f =
          let l : i < s.m = omega (arith, f.0) in
          T_false _ (λ t. true≢false (sym (all-at s.m (equation_holds A s key x) (T_true _ t) i l) ∙ fails-at i l f.1))
