-- The fifteen questions of 01, each with its number, and 17 and 18 of request 3 (16 stands in Setting). The place is
-- 0, but of 11 the first equation that fails (request 2; 01 leaves it free), and of 14 and 15 the first repetition.
--   h_exact, χExact, ΔExact == a challenge has its exact length
--   leaves_exact per l == l is `per` leaves for each repetition
--   h_spare, leaves_spare, proof_spare == spare bits are 0;  witness_form x == question 9
--   equation_holds key x i == equation i of the key holds at x;  solves key x == every equation does
--   fails key x i == i is an equation of the key, and it fails at x
--   proof_elements p == the bytes of Ṽ, QS0 and QS1 are elements of the field
--   tree_of opened e == the opened tree of repetition e
--   consistent_in, product_in == the checks in repetition e, on what the verifier is lent
-- Assumes nothing.
use Rattle.std.specs.Prelude.{◌≢◌, Bool, ◌&&◌, List, [], ◌∷◌, ℕ, ◌*◌, ◌-◌, ◌<◌, eqb, leb, get_or, length}
use Rattle.algebra.specs.Roots.{is_zero}
use Rattle.protocol.specs.Lists.{all_below, all_true, first_not, block_at}
use Rattle.protocol.specs.Frames.{framed, framed_length}
use Rattle.protocol.specs.Alphabet.{Alphabet, sym, elements_in}
use Rattle.protocol.specs.Shape.{Shape, limits, per_opened, k_of, l_of, w_of}
use Rattle.protocol.specs.Key.{rows_spare, key_exact, key_spare}
use Rattle.protocol.specs.Sections.{Sections, lengths, sections_in}
use Rattle.protocol.specs.Forms.{error}
use Rattle.protocol.specs.Verifier.{consistent_at, product_at}
use Rattle.protocol.specs.Answers.{Question, question}

module _ (A : Alphabet) (s : Shape) where
  open A use {K, width, spare_zero}
  open K use {base}
  open base use {R}
  open R use {F, 𝟘}

  unfoldable pub h_exact : List ℕ → Bool
  h_exact H' = eqb (length H') (s.t * width (k_of A s))

  unfoldable pub χExact : List ℕ → Bool
  χExact χ = eqb (length χ) (s.τ * s.m)

  unfoldable pub ΔExact : List ℕ → Bool
  ΔExact Δ = eqb (length Δ) s.τ

  unfoldable pub h_spare : List ℕ → Bool
  h_spare H' = rows_spare A (k_of A s) s.t H'

  unfoldable pub leaves_exact : ℕ → List ℕ → Bool
  leaves_exact per l = eqb (length l) (s.τ * per * w_of A s)

  unfoldable pub leaves_spare : ℕ → List ℕ → Bool
  leaves_spare per l = rows_spare A (l_of A s) (s.τ * per) l

  unfoldable pub witness_form : List ℕ → Bool
  witness_form x = eqb (length x) (width s.n) && spare_zero x s.n

  abbrev pub equation_holds : List ℕ → List ℕ → ℕ → Bool
  equation_holds key x i = is_zero base (error A s key i (sym A x))

  unfoldable pub solves : List ℕ → List ℕ → Bool
  solves key x = all_below s.m (equation_holds key x)

  abbrev pub fails : List ℕ → List ℕ → ℕ → Type 0
  fails key x i = (i < s.m) × (error A s key i (sym A x) ≢ 𝟘)

  unfoldable pub proof_spare : Sections → Bool
  proof_spare p = all_true (rows_spare A (l_of A s) (s.τ - 1) p.C ∷ spare_zero p.d s.n ∷ spare_zero p.ũ s.t ∷ [])

  unfoldable pub proof_elements : Sections → Bool
  proof_elements p = all_true (elements_in A p.Ṽ ∷ elements_in A p.QS0 ∷ elements_in A p.QS1 ∷ [])

  unfoldable pub tree_of : List ℕ → ℕ → List ℕ
  tree_of opened e = block_at opened (per_opened A * w_of A s) e

  unfoldable pub consistent_in : List ℕ → List ℕ → List ℕ → List ℕ → ℕ → Bool
  consistent_in Δ H' opened proof e = consistent_at A s H' (sections_in A s proof) e (get_or Δ e 0) (tree_of opened e)

  unfoldable pub product_in : List ℕ → List ℕ → List ℕ → List ℕ → List ℕ → ℕ → Bool
  product_in key Δ χ opened proof e = product_at A s key χ (sections_in A s proof) e (get_or Δ e 0) (tree_of opened e)

  abbrev pub q1 : List ℕ → Question
  q1 key = question (leb 8 (length key)) 1 0

  abbrev pub q2 : Question
  q2 = question (limits s) 2 0

  abbrev pub q3 : List ℕ → Question
  q3 key = question (key_exact A s key) 3 0

  abbrev pub q4 : List ℕ → Question
  q4 key = question (key_spare A s key) 4 0

  -- of the lengths of the challenges that the call takes
  abbrev pub q5 : List Bool → Question
  q5 exact = question (all_true exact) 5 0

  abbrev pub q6 : List ℕ → Question
  q6 H' = question (h_spare H') 6 0

  abbrev pub q7 : ℕ → List ℕ → Question
  q7 per l = question (leaves_exact per l) 7 0

  abbrev pub q8 : ℕ → List ℕ → Question
  q8 per l = question (leaves_spare per l) 8 0

  abbrev pub q9 : List ℕ → Question
  q9 x = question (witness_form x) 9 0

  -- of the lengths of the sections to be written
  abbrev pub q10 : List ℕ → List ℕ → Question
  q10 ls out = question (eqb (length out) (framed_length ls)) 10 0

  abbrev pub q11 : List ℕ → List ℕ → Question
  q11 key x = question (solves key x) 11 (first_not s.m (equation_holds key x))

  abbrev pub q12 : List ℕ → Question
  q12 proof = question (framed (lengths A s) proof) 12 0

  abbrev pub q13 : List ℕ → Question
  q13 proof = question (proof_spare (sections_in A s proof)) 13 0

  abbrev pub q14 : List ℕ → List ℕ → List ℕ → List ℕ → Question
  q14 Δ H' opened proof = question (all_below s.τ (consistent_in Δ H' opened proof)) 14 (first_not s.τ (consistent_in Δ H' opened proof))

  abbrev pub q15 : List ℕ → List ℕ → List ℕ → List ℕ → List ℕ → Question
  q15 key Δ χ opened proof = question (all_below s.τ (product_in key Δ χ opened proof)) 15 (first_not s.τ (product_in key Δ χ opened proof))

  -- of the bytes of Δ and χ, as far as the call takes them
  abbrev pub q17 : List Bool → Question
  q17 elements = question (all_true elements) 17 0

  abbrev pub q18 : List ℕ → Question
  q18 proof = question (proof_elements (sections_in A s proof)) 18 0
