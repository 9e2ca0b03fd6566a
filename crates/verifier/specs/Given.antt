-- What the verifier knows once its questions on form got a yes. In each definition A is the alphabet.
--   VerifyFacts == of everything that it is lent
--   check_questions == questions 14 and 15
-- Assumes nothing.
use Rattle.std.specs.Prelude.{◌≡◌, true, List, [], ◌∷◌, ℕ, ◌*◌, length}
use Rattle.protocol.specs.Alphabet.{Alphabet, elements_in}
use Rattle.protocol.specs.Shape.{Shape, per_opened, w_of}
use Rattle.protocol.specs.Sections.{sections_in}
use Rattle.protocol.specs.Answers.{Question}
use Rattle.protocol.specs.Questions.{proof_elements, q14, q15}
use Rattle.questions.specs.Facts.{HashForm, KeyFacts, ProofForm}

pub record VerifyFacts (A : Alphabet) (s : Shape) (key Δ H' χ opened proof : List ℕ) : Type 0 where
  pub of-key : KeyFacts A s key
  pub of_challenge : length Δ ≡ s.τ
  pub of_hash : HashForm A s H'
  pub of_batching : length χ ≡ s.τ * s.m
  pub of_opened : length opened ≡ s.τ * per_opened A * w_of A s
  pub of-proof : ProofForm A s proof
  pub of_elements : elements_in A Δ ≡ true
  pub χ_elements : elements_in A χ ≡ true
  pub proof-elements : proof_elements A s (sections_in A s proof) ≡ true

abbrev pub check_questions : Alphabet → Shape → List ℕ → List ℕ → List ℕ → List ℕ → List ℕ → List ℕ → List Question
check_questions A s key Δ H' χ opened proof = q14 A s Δ H' opened proof ∷ q15 A s key Δ χ opened proof ∷ []
