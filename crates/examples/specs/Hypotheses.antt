-- The toy meets what the theorems suppose, so that none of them is about nothing;
-- and what demand 3 counts comes out as numbers.
-- The table has the rest: an equation that fails, and refusals 14 and 15. proofs/Hypotheses proves it.
--   HypothesesMet == the forms, then the numbers
-- Assumes nothing.
use Rattle.std.specs.Prelude.{◌≡◌, true, [], ◌∷◌}
use Rattle.algebra.specs.Columns.{zero_columns}
use Rattle.protocol.specs.Strings.{bytes}
use Rattle.protocol.specs.Shape.{shape_of}
use Rattle.protocol.specs.Questions.{solves}
use Rattle.protocol.specs.Calls.{test_form, commit_form, batch_form, prove_form, verify_form, honest_form, well_formed}
use Rattle.protocol.specs.Counting.{opening, accepted_count, factor}
use Rattle.theorems.specs.Statements.{error_of}
use Rattle.protocol.specs.Check.{eight}
use Rattle.examples.specs.Toy.{A, s, key, key₀, leaves, x, H', χ, out, proof, proof_qs1, proofṼ}

pub record HypothesesMet : Type 0 where
  -- "All else being well formed, a call given a witness of the right form refuses it exactly when some equation fails":
  -- none does, and with y = 0 one does.
  pub test-form : test_form eight key x ≡ true
  pub commit-form : commit_form eight key leaves x (out 9) ≡ true
  pub batch-form : batch_form eight key leaves x χ (out 10) ≡ true
  pub prove-form : prove_form eight key leaves x H' χ (out 29) ≡ true
  pub failing-form : prove_form eight key₀ leaves x H' χ (out 29) ≡ true
  -- "An honest proof is accepted at every challenge."
  pub honest-form : honest_form eight key leaves x H' χ ≡ true
  pub solved : solves A s key x ≡ true
  -- "Given well-formed input, the verifier accepts exactly when the published checks hold in every repetition."
  pub verify-form : verify_form eight key (0x02 ∷ []) H' χ (opening A s leaves (0x02 ∷ [])) proof ≡ true
  -- Demand 3: "Whatever well-formed key, .. and proof a stranger hands us": an honest proof, two that are changed, and
  -- with y = 0 a forged one.
  pub honest_well_formed : well_formed eight key leaves H' χ proof ≡ true
  pub QS1_well_formed : well_formed eight key leaves H' χ proof_qs1 ≡ true
  pub Ṽ_well_formed : well_formed eight key leaves H' χ proofṼ ≡ true
  pub forged_well_formed : well_formed eight key₀ leaves H' χ proof_qs1 ≡ true
  pub leaves-bytes : bytes leaves
  -- "Each factor is 0, 1, 2 or 256": of these proofs, each of the four occurs.
  pub factor-none : factor A key leaves H' χ proofṼ 0 ≡ 0
  pub factor-one : factor A key leaves H' χ proof_qs1 0 ≡ 1
  pub factor-two : factor A key₀ leaves H' χ proof_qs1 0 ≡ 2
  pub factor-full : factor A key leaves H' χ proof 0 ≡ 256
  -- "If the count exceeds 2 to the number of repetitions": to 1, here.
  -- The forged proof's does not, the honest one's does.
  pub forged_count : accepted_count eight key₀ leaves H' χ proof_qs1 ≡ 2
  pub honest-count : accepted_count eight key leaves H' χ proof ≡ 256
  -- "Exactly 256 to the power m−1 of all batching columns .. if it fails any equation, and all of them if it fails
  -- none": m is 1.
  pub failing-columns : zero_columns A.K.base (shape_of key₀).m (error_of A key₀ leaves proof_qs1 0) ≡ 1
  pub solving-columns : zero_columns A.K.base s.m (error_of A key leaves proof 0) ≡ 256
