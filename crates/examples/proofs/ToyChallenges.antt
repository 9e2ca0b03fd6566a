-- The challenges at which a proof over the toy's leaves is accepted: they pass conditions whose coefficients the
-- checker can compute. And their number.
--   shift_of, candidate_of u, conditions_of v u == `shift`, `candidate` and `conditions` of protocol, at any vectors
--   coefficients == at v₄ and u₄
--   conditions_with a c1 c2 == the conditions a = 0 and c1·Δ + c2·Δ² = 0
-- Assumes nothing.
use mathlib.Core.Path.{◌≡◌, refl, ap, ap₂, ◌∙◌}
use mathlib.Core.Bool.{true}
use mathlib.Core.List.{List, [], ◌∷◌}
use Prim.Native.Nat.{ℕ}
use native.Mathlib.Nat.{mul-one}
use lib.Dec.{lit<}
use Rattle.algebra.specs.Field.{Field}
use Rattle.algebra.specs.Count.{count}
use Rattle.algebra.specs.Roots.{Conditions, passing}
use Rattle.algebra.proofs.CountLaws.{count_congr}
use Rattle.galois.specs.Degrees.{field_of}
use Rattle.protocol.specs.Lists.{table}
use Rattle.protocol.specs.Frames.{num2}
use Rattle.protocol.specs.Alphabet.{sym, elem_at}
use Rattle.protocol.specs.Sections.{Sections, sections_in}
use Rattle.protocol.specs.Forms.{quad, middle, error, hash, mask_of, batch}
use Rattle.protocol.specs.Verifier.{correction_at, candidate, batched_error}
use Rattle.protocol.specs.Answers.{is_accepted}
use Rattle.protocol.specs.Calls.{well_formed}
use Rattle.protocol.specs.Counting.{accepted_count, checks_at, factor}
use Rattle.protocol.specs.Coefficients.{conditions}
use Rattle.theorems.specs.Statements.{error_of}
use Rattle.protocol.specs.Check.{eight}
use Rattle.theorems.proofs.TestLaws.{and-true}
use Rattle.theorems.proofs.CountingLaws.{form_of, leaves-length, splits}
use Rattle.theorems.proofs.CoefficientLaws.{checks-passing}
use Rattle.theorems.proofs.Demands.{demand_3}
use Rattle.examples.specs.Toy.{A, key_with, leaves, H', χ, answer_with}
use Rattle.examples.proofs.ToyLeaves.{R, F, toy, u₄, v₄, u_few, v_few}
use Rattle.examples.proofs.ToyVerifier.{leaves-exact}

abbrev pub K : Field
K = A.K.base

infixl 65 ◌⊕◌
abbrev ◌⊕◌ : F → F → F
◌⊕◌ = R.add

abbrev pub conditions_with : ℕ → ℕ → ℕ → Conditions K
conditions_with a c1 c2 = record { lines = record { a = A.K.elem a; b = A.K.elem 0 } ∷ []; c0 = A.K.elem 0; c1 = A.K.elem c1; c2 = A.K.elem c2 }

module _ (y : ℕ) (proof : List ℕ) where
  abbrev p : Sections
  p = sections_in A toy proof

  abbrev shift_of : (ℕ → F) → ℕ → F
  shift_of u c = u c ⊕ correction_at A toy p 0 c

  abbrev candidate_of : (ℕ → F) → ℕ → F
  candidate_of u c = shift_of u c ⊕ sym A p.d c

  abbrev conditions_of : (ℕ → F) → (ℕ → F) → Conditions K
  conditions_of v u = record {
    lines = record { a = hash A toy H' 0 v ⊕ elem_at A p.Ṽ 0; b = hash A toy H' 0 (shift_of u) ⊕ sym A p.ũ 0 } ∷ [];
    c0 = batch A toy χ 0 (λ i. quad A toy (key_with y) i v v) ⊕ mask_of A toy 0 v ⊕ elem_at A p.QS0 0;
    c1 = batch A toy χ 0 (λ i. middle A toy (key_with y) i v (candidate_of u)) ⊕ mask_of A toy 0 (shift_of u) ⊕ elem_at A p.QS1 0;
    c2 = batch A toy χ 0 (λ i. error A toy (key_with y) i (candidate_of u));
  }

  abbrev pub coefficients : Conditions K
  coefficients = conditions_of v₄ u₄

  coefficients_are : conditions A toy (key_with y) leaves H' χ p 0 ≡ coefficients
  unfolding batched_error candidate table
  coefficients_are = ap₂ conditions_of v_few u_few

  pub error_is : error_of A (key_with y) leaves proof 0 0 ≡ error A toy (key_with y) 0 (candidate_of u₄)
  unfolding candidate num2 key_with
  error_is = ap (λ u. error A toy (key_with y) 0 (candidate_of u)) u_few

  checks_are : (δ : F) → checks_at A (key_with y) leaves H' χ toy p 0 (A.K.byte δ) ≡ passing K coefficients δ
  checks_are δ = checks-passing A toy (key_with y) leaves H' χ p 0 (leaves-length A toy leaves leaves-exact) (lit< tt) δ ∙ ap (λ c. passing K c δ) coefficients_are

  factor_is : factor A (key_with y) leaves H' χ proof 0 ≡ count (passing K coefficients) K.elements
  unfolding factor num2 key_with
  factor_is = count_congr _ (passing K coefficients) checks_are K.elements

  pub factor-by : (c : Conditions K) (n : ℕ) → coefficients ≡ c → count (passing K c) K.elements ≡ n → factor A (key_with y) leaves H' χ proof 0 ≡ n
  factor-by c n e k = factor_is ∙ ap (λ c. count (passing K c) K.elements) e ∙ k

  module _ (well : well_formed eight (key_with y) leaves H' χ proof ≡ true) where
    pub accepted_if_passing : (δ : F) → is_accepted (answer_with (key_with y) (A.K.byte δ) proof) ≡ passing K coefficients δ
    unfolding field_of num2 key_with
    accepted_if_passing δ = splits eight (key_with y) leaves H' χ proof (form_of eight (key_with y) leaves H' χ proof well) (δ ∷ []) refl ∙ and-true _ ∙ checks_are δ

    -- demand 3, at one repetition
    pub count-is : accepted_count eight (key_with y) leaves H' χ proof ≡ factor A (key_with y) leaves H' χ proof 0
    unfolding field_of num2 key_with
    count-is = (demand_3 eight (key_with y) leaves H' χ proof).count_equals_product well ∙ mul-one _
