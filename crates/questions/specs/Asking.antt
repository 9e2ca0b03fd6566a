-- How the code puts its questions: those on the key first, then one input after the other, each only where all before
-- got a yes.
-- In each definition A is the alphabet, and g the setting.
--   header_questions key == questions 1 to 4, on the key alone;  output_question ls n == question 10, of an output of n
--     bytes
--   leaf_questions s per leaves == questions 7 and 8, of `per` leaves for each repetition
--   commit_inputs s .., hash_inputs, batch_inputs, prove_inputs, verify_inputs == the questions of a call after those on the
--     key, by the sizes s
--   proof_questions s proof == questions 12, 13 and 18
--   CommitAsked .. n a, HashAsked, BatchAsked, ProveAsked == a is the answer to the call's questions on form, for every
--     output of n bytes
--   SizedKey s key == the key has a header, the sizes s are in range, and by them its sections are exact
--   KeyForm key == what questions 1 to 3 ask of a key: so it is by the sizes in its own header
-- Assumes nothing.
use Rattle.std.specs.Prelude.{◌≡◌, true, List, [], ◌∷◌, ℕ, ◌≤◌, eqb, length}
use Rattle.protocol.specs.Frames.{framed_length}
use Rattle.protocol.specs.Alphabet.{Alphabet, elements_in}
use Rattle.protocol.specs.Setting.{Setting}
use Rattle.protocol.specs.Shape.{Shape, shape_of, limits, per_tree, per_opened}
use Rattle.protocol.specs.Sections.{lengths, commit_lengths, hash_lengths, batch_lengths}
use Rattle.protocol.specs.Key.{key_exact}
use Rattle.protocol.specs.Answers.{Answer, Question, question, ask}
use Rattle.protocol.specs.Calls.{commit_questions, hash_questions, batch_questions, prove_questions}
use Rattle.protocol.specs.Questions.{ΔExact, h_exact, χExact, q1, q2, q3, q4, q5, q6, q7, q8, q9, q12, q13, q17, q18}

abbrev pub header_questions : Alphabet → List ℕ → List Question
header_questions A key = q1 A (shape_of key) key ∷ q2 A (shape_of key) ∷ q3 A (shape_of key) key ∷ q4 A (shape_of key) key ∷ []

abbrev pub output_question : List ℕ → ℕ → Question
output_question ls n = question (eqb n (framed_length ls)) 10 0

module _ (A : Alphabet) (s : Shape) where
  abbrev pub leaf_questions : ℕ → List ℕ → List Question
  leaf_questions per leaves = q7 A s per leaves ∷ q8 A s per leaves ∷ []

  abbrev pub commit_inputs : List ℕ → List ℕ → ℕ → List Question
  commit_inputs leaves x n =
      q7 A s (per_tree A) leaves ∷ q8 A s (per_tree A) leaves ∷ q9 A s x ∷ output_question (commit_lengths A s) n ∷ []

  abbrev pub hash_inputs : List ℕ → List ℕ → ℕ → List Question
  hash_inputs leaves H' n =
      q5 A s (h_exact A s H' ∷ []) ∷ q6 A s H' ∷ q7 A s (per_tree A) leaves ∷ q8 A s (per_tree A) leaves
      ∷ output_question (hash_lengths A s) n ∷ []

  abbrev pub batch_inputs : List ℕ → List ℕ → List ℕ → ℕ → List Question
  batch_inputs leaves x χ n =
      q5 A s (χExact A s χ ∷ []) ∷ q17 A s (elements_in A χ ∷ []) ∷ q7 A s (per_tree A) leaves ∷ q8 A s (per_tree A) leaves ∷ q9 A s x
      ∷ output_question (batch_lengths A s) n ∷ []

  abbrev pub prove_inputs : List ℕ → List ℕ → List ℕ → List ℕ → ℕ → List Question
  prove_inputs leaves x H' χ n =
      q5 A s (h_exact A s H' ∷ χExact A s χ ∷ []) ∷ q6 A s H' ∷ q17 A s (elements_in A χ ∷ []) ∷ q7 A s (per_tree A) leaves
      ∷ q8 A s (per_tree A) leaves ∷ q9 A s x ∷ output_question (lengths A s) n ∷ []

  abbrev pub verify_inputs : List ℕ → List ℕ → List ℕ → List ℕ → List Question
  verify_inputs Δ H' χ opened =
      q5 A s (ΔExact A s Δ ∷ h_exact A s H' ∷ χExact A s χ ∷ []) ∷ q6 A s H' ∷ q17 A s (elements_in A Δ ∷ elements_in A χ ∷ [])
      ∷ q7 A s (per_opened A) opened
      ∷ q8 A s (per_opened A) opened ∷ []

  abbrev pub proof_questions : List ℕ → List Question
  proof_questions proof = q12 A s proof ∷ q13 A s proof ∷ q18 A s proof ∷ []

module _ (g : Setting) (key : List ℕ) where
  abbrev pub CommitAsked : List ℕ → List ℕ → ℕ → Answer → Type 0
  CommitAsked leaves x n a = (out : List ℕ) → length out ≡ n → a ≡ ask (commit_questions g key leaves x out)

  abbrev pub HashAsked : List ℕ → List ℕ → ℕ → Answer → Type 0
  HashAsked leaves H' n a = (out : List ℕ) → length out ≡ n → a ≡ ask (hash_questions g key leaves H' out)

  abbrev pub BatchAsked : List ℕ → List ℕ → List ℕ → ℕ → Answer → Type 0
  BatchAsked leaves x χ n a = (out : List ℕ) → length out ≡ n → a ≡ ask (batch_questions g key leaves x χ out)

  abbrev pub ProveAsked : List ℕ → List ℕ → List ℕ → List ℕ → ℕ → Answer → Type 0
  ProveAsked leaves x H' χ n a = (out : List ℕ) → length out ≡ n → a ≡ ask (prove_questions g key leaves x H' χ out)

pub record SizedKey (A : Alphabet) (s : Shape) (key : List ℕ) : Type 0 where
  pub header : 8 ≤ length key
  pub sizes : limits s ≡ true
  pub exact : key_exact A s key ≡ true

abbrev pub KeyForm : Alphabet → List ℕ → Type 0
KeyForm A key = SizedKey A (shape_of key) key
