-- What each call answers: its questions, in 01's order. 16 comes first of all, 17 after 6, 18 after 13 (request 3).
--   key_questions == of the setting and the key: 16, and 1 to 4
--   test_questions, .., verify_questions == the call's questions on form: all but 11, 14 and 15, which come last
--   test_puts, commit_puts, batch_puts, prove_puts, verify_puts == all questions that the call puts, in order; hash has none
--     but those on form
--   test_answer, commit_answer, hash_answer, batch_answer, prove_answer, verify_answer == the answers of the six calls
--   test_form, commit_form, batch_form, prove_form, verify_form == every question on form gets a yes
--   honest_questions, honest_form == every question of prove on form but 10: a proof's bytes do not depend on the
--     output's length
--   well_formed_questions, well_formed == demand 3's: the questions on form, of full leaves
-- Assumes nothing.
use Rattle.std.specs.Prelude.{Bool, List, [], ◌∷◌, ◌++◌, ℕ}
use Rattle.protocol.specs.Alphabet.{Alphabet, elements_in}
use Rattle.protocol.specs.Setting.{Setting, q16, alphabet_of}
use Rattle.protocol.specs.Shape.{Shape, shape_of, per_tree, per_opened}
use Rattle.protocol.specs.Sections.{lengths, commit_lengths, hash_lengths, batch_lengths}
use Rattle.protocol.specs.Answers.{Answer, Question, ask, all_yes}
use Rattle.protocol.specs.Questions.{ΔExact, h_exact, χExact, q1, q2, q3, q4, q5, q6, q7, q8, q9, q10, q11, q12, q13, q14, q15, q17, q18}

module _ (g : Setting) (key : List ℕ) where
  abbrev pub A : Alphabet
  A = alphabet_of g

  abbrev pub s : Shape
  s = shape_of key

  abbrev pub key_questions : List Question
  key_questions = q16 g ∷ q1 A s key ∷ q2 A s ∷ q3 A s key ∷ q4 A s key ∷ []

  abbrev pub test_questions : List ℕ → List Question
  test_questions x = key_questions ++ (q9 A s x ∷ [])

  abbrev pub commit_questions : List ℕ → List ℕ → List ℕ → List Question
  commit_questions leaves x out = key_questions ++ (q7 A s (per_tree A) leaves ∷ q8 A s (per_tree A) leaves ∷ q9 A s x ∷ q10 A s (commit_lengths A s) out ∷ [])

  abbrev pub hash_questions : List ℕ → List ℕ → List ℕ → List Question
  hash_questions leaves H' out =
      key_questions
      ++ (q5 A s (h_exact A s H' ∷ []) ∷ q6 A s H' ∷ q7 A s (per_tree A) leaves ∷ q8 A s (per_tree A) leaves ∷ q10 A s (hash_lengths A s) out ∷ [])

  abbrev pub batch_questions : List ℕ → List ℕ → List ℕ → List ℕ → List Question
  batch_questions leaves x χ out =
      key_questions
      ++ (q5 A s (χExact A s χ ∷ []) ∷ q17 A s (elements_in A χ ∷ []) ∷ q7 A s (per_tree A) leaves ∷ q8 A s (per_tree A) leaves ∷ q9 A s x
      ∷ q10 A s (batch_lengths A s) out ∷ [])

  abbrev pub prove_questions : List ℕ → List ℕ → List ℕ → List ℕ → List ℕ → List Question
  prove_questions leaves x H' χ out =
      key_questions
      ++ (q5 A s (h_exact A s H' ∷ χExact A s χ ∷ []) ∷ q6 A s H' ∷ q17 A s (elements_in A χ ∷ []) ∷ q7 A s (per_tree A) leaves
      ∷ q8 A s (per_tree A) leaves ∷ q9 A s x ∷ q10 A s (lengths A s) out ∷ [])

  abbrev pub verify_questions : List ℕ → List ℕ → List ℕ → List ℕ → List ℕ → List Question
  verify_questions Δ H' χ opened proof =
      key_questions
      ++ (q5 A s (ΔExact A s Δ ∷ h_exact A s H' ∷ χExact A s χ ∷ []) ∷ q6 A s H' ∷ q17 A s (elements_in A Δ ∷ elements_in A χ ∷ [])
      ∷ q7 A s (per_opened A) opened ∷ q8 A s (per_opened A) opened ∷ q12 A s proof ∷ q13 A s proof ∷ q18 A s proof ∷ [])

  abbrev pub test_puts : List ℕ → List Question
  test_puts x = test_questions x ++ (q11 A s key x ∷ [])

  abbrev pub commit_puts : List ℕ → List ℕ → List ℕ → List Question
  commit_puts leaves x out = commit_questions leaves x out ++ (q11 A s key x ∷ [])

  abbrev pub batch_puts : List ℕ → List ℕ → List ℕ → List ℕ → List Question
  batch_puts leaves x χ out = batch_questions leaves x χ out ++ (q11 A s key x ∷ [])

  abbrev pub prove_puts : List ℕ → List ℕ → List ℕ → List ℕ → List ℕ → List Question
  prove_puts leaves x H' χ out = prove_questions leaves x H' χ out ++ (q11 A s key x ∷ [])

  abbrev pub verify_puts : List ℕ → List ℕ → List ℕ → List ℕ → List ℕ → List Question
  verify_puts Δ H' χ opened proof = verify_questions Δ H' χ opened proof ++ (q14 A s Δ H' opened proof ∷ q15 A s key Δ χ opened proof ∷ [])

  unfoldable pub test_answer : List ℕ → Answer
  test_answer x = ask (test_puts x)

  unfoldable pub commit_answer : List ℕ → List ℕ → List ℕ → Answer
  commit_answer leaves x out = ask (commit_puts leaves x out)

  unfoldable pub hash_answer : List ℕ → List ℕ → List ℕ → Answer
  hash_answer leaves H' out = ask (hash_questions leaves H' out)

  unfoldable pub batch_answer : List ℕ → List ℕ → List ℕ → List ℕ → Answer
  batch_answer leaves x χ out = ask (batch_puts leaves x χ out)

  unfoldable pub prove_answer : List ℕ → List ℕ → List ℕ → List ℕ → List ℕ → Answer
  prove_answer leaves x H' χ out = ask (prove_puts leaves x H' χ out)

  unfoldable pub verify_answer : List ℕ → List ℕ → List ℕ → List ℕ → List ℕ → Answer
  verify_answer Δ H' χ opened proof = ask (verify_puts Δ H' χ opened proof)

  unfoldable pub test_form : List ℕ → Bool
  test_form x = all_yes (test_questions x)

  unfoldable pub commit_form : List ℕ → List ℕ → List ℕ → Bool
  commit_form leaves x out = all_yes (commit_questions leaves x out)

  unfoldable pub batch_form : List ℕ → List ℕ → List ℕ → List ℕ → Bool
  batch_form leaves x χ out = all_yes (batch_questions leaves x χ out)

  unfoldable pub prove_form : List ℕ → List ℕ → List ℕ → List ℕ → List ℕ → Bool
  prove_form leaves x H' χ out = all_yes (prove_questions leaves x H' χ out)

  unfoldable pub verify_form : List ℕ → List ℕ → List ℕ → List ℕ → List ℕ → Bool
  verify_form Δ H' χ opened proof = all_yes (verify_questions Δ H' χ opened proof)

  abbrev pub honest_questions : List ℕ → List ℕ → List ℕ → List ℕ → List Question
  honest_questions leaves x H' χ =
      key_questions
      ++ (q5 A s (h_exact A s H' ∷ χExact A s χ ∷ []) ∷ q6 A s H' ∷ q17 A s (elements_in A χ ∷ []) ∷ q7 A s (per_tree A) leaves
      ∷ q8 A s (per_tree A) leaves ∷ q9 A s x ∷ [])

  abbrev pub well_formed_questions : List ℕ → List ℕ → List ℕ → List ℕ → List Question
  well_formed_questions leaves H' χ proof =
      key_questions
      ++ (q5 A s (h_exact A s H' ∷ χExact A s χ ∷ []) ∷ q6 A s H' ∷ q17 A s (elements_in A χ ∷ []) ∷ q7 A s (per_tree A) leaves
      ∷ q8 A s (per_tree A) leaves ∷ q12 A s proof ∷ q13 A s proof ∷ q18 A s proof ∷ [])

  unfoldable pub honest_form : List ℕ → List ℕ → List ℕ → List ℕ → Bool
  honest_form leaves x H' χ = all_yes (honest_questions leaves x H' χ)

  unfoldable pub well_formed : List ℕ → List ℕ → List ℕ → List ℕ → Bool
  well_formed leaves H' χ proof = all_yes (well_formed_questions leaves H' χ proof)
