-- The questions that each call puts, by their numbers and in order, whatever the call is lent.
-- proofs/QuestionNumbers computes each statement.
--   numbers qs == the numbers of the questions qs, in order
--   QuestionNumbers g == 01's list of questions, with those of request 3, as far as it concerns each call's inputs
--   among is i == i is one of is;  OwnNumbers g == each call answers 0 or a number of its own questions
-- Assumes nothing.
use Rattle.std.specs.Prelude.{◌≡◌, Bool, true, false, ◌||◌, List, [], ◌∷◌, map, ℕ, eqb}
use Rattle.protocol.specs.Setting.{Setting}
use Rattle.protocol.specs.Answers.{number_of, Question}
use Rattle.protocol.specs.Calls.{test_puts, commit_puts, hash_questions, batch_puts, prove_puts, verify_puts, honest_questions, well_formed_questions, test_answer, commit_answer, hash_answer, batch_answer, prove_answer, verify_answer}

abbrev pub numbers : List Question → List ℕ
numbers qs = map (λ x. x.number) qs

pub record QuestionNumbers (g : Setting) : Type 0 where
  pub test_puts_lem : (key x : List ℕ) → numbers (test_puts g key x) ≡ 16 ∷ 1 ∷ 2 ∷ 3 ∷ 4 ∷ 9 ∷ 11 ∷ []
  pub commit_puts_lem : (key leaves x out : List ℕ) → numbers (commit_puts g key leaves x out) ≡ 16 ∷ 1 ∷ 2 ∷ 3 ∷ 4 ∷ 7 ∷ 8 ∷ 9 ∷ 10 ∷ 11 ∷ []
  pub hash_puts : (key leaves H' out : List ℕ) → numbers (hash_questions g key leaves H' out) ≡ 16 ∷ 1 ∷ 2 ∷ 3 ∷ 4 ∷ 5 ∷ 6 ∷ 7 ∷ 8 ∷ 10 ∷ []
  pub batch_puts_lem : (key leaves x χ out : List ℕ) → numbers (batch_puts g key leaves x χ out) ≡ 16 ∷ 1 ∷ 2 ∷ 3 ∷ 4 ∷ 5 ∷ 17 ∷ 7 ∷ 8 ∷ 9 ∷ 10 ∷ 11 ∷ []
  pub prove_puts_lem : (key leaves x H' χ out : List ℕ) → numbers (prove_puts g key leaves x H' χ out) ≡ 16 ∷ 1 ∷ 2 ∷ 3 ∷ 4 ∷ 5 ∷ 6 ∷ 17 ∷ 7 ∷ 8 ∷ 9 ∷ 10 ∷ 11 ∷ []
  pub verify_puts_lem : (key Δ H' χ opened proof : List ℕ) → numbers (verify_puts g key Δ H' χ opened proof) ≡ 16 ∷ 1 ∷ 2 ∷ 3 ∷ 4 ∷ 5 ∷ 6 ∷ 17 ∷ 7 ∷ 8 ∷ 12 ∷ 13 ∷ 18 ∷ 14 ∷ 15 ∷ []
  -- the questions on form that completeness and the forgery count suppose: 9 and 10 concern the witness and the output
  pub honest : (key leaves x H' χ : List ℕ) → numbers (honest_questions g key leaves x H' χ) ≡ 16 ∷ 1 ∷ 2 ∷ 3 ∷ 4 ∷ 5 ∷ 6 ∷ 17 ∷ 7 ∷ 8 ∷ 9 ∷ []
  pub well_formed_lem : (key leaves H' χ proof : List ℕ) → numbers (well_formed_questions g key leaves H' χ proof) ≡ 16 ∷ 1 ∷ 2 ∷ 3 ∷ 4 ∷ 5 ∷ 6 ∷ 17 ∷ 7 ∷ 8 ∷ 12 ∷ 13 ∷ 18 ∷ []

abbrev pub among : List ℕ → ℕ → Bool
among [] i = false
among (j ∷ is) i = eqb i j || among is i

pub record OwnNumbers (g : Setting) : Type 0 where
  pub test-own : (key x : List ℕ) → among (0 ∷ 16 ∷ 1 ∷ 2 ∷ 3 ∷ 4 ∷ 9 ∷ 11 ∷ []) (number_of (test_answer g key x)) ≡ true
  pub commit-own : (key leaves x out : List ℕ) → among (0 ∷ 16 ∷ 1 ∷ 2 ∷ 3 ∷ 4 ∷ 7 ∷ 8 ∷ 9 ∷ 10 ∷ 11 ∷ []) (number_of (commit_answer g key leaves x out)) ≡ true
  pub hash-own : (key leaves H' out : List ℕ) → among (0 ∷ 16 ∷ 1 ∷ 2 ∷ 3 ∷ 4 ∷ 5 ∷ 6 ∷ 7 ∷ 8 ∷ 10 ∷ []) (number_of (hash_answer g key leaves H' out)) ≡ true
  pub batch-own : (key leaves x χ out : List ℕ) → among (0 ∷ 16 ∷ 1 ∷ 2 ∷ 3 ∷ 4 ∷ 5 ∷ 17 ∷ 7 ∷ 8 ∷ 9 ∷ 10 ∷ 11 ∷ []) (number_of (batch_answer g key leaves x χ out)) ≡ true
  pub prove-own : (key leaves x H' χ out : List ℕ) → among (0 ∷ 16 ∷ 1 ∷ 2 ∷ 3 ∷ 4 ∷ 5 ∷ 6 ∷ 17 ∷ 7 ∷ 8 ∷ 9 ∷ 10 ∷ 11 ∷ []) (number_of (prove_answer g key leaves x H' χ out)) ≡ true
  pub verify-own : (key Δ H' χ opened proof : List ℕ)
      → among (0 ∷ 16 ∷ 1 ∷ 2 ∷ 3 ∷ 4 ∷ 5 ∷ 6 ∷ 17 ∷ 7 ∷ 8 ∷ 12 ∷ 13 ∷ 18 ∷ 14 ∷ 15 ∷ []) (number_of (verify_answer g key Δ H' χ opened proof)) ≡ true
