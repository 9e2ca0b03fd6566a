-- The toy meets the theorems' hypotheses: computed, and demand 3 applied.
-- Assumes nothing.
use mathlib.Core.Path.{◌≡◌, refl, sym, ◌∙◌}
use mathlib.Core.Bool.{true}
use mathlib.Core.Logic.{◌≢◌}
use mathlib.Core.List.{List, [], ◌∷◌}
use Prim.Native.Nat.{ℕ, zero, suc, ◌≤◌, ◌<◌}
use native.Mathlib.Omega.{arith}
use lib.Dec.{leb, lit<}
use lib.ListN.{length, get_or}
use Rattle.algebra.specs.Columns.{zero_columns}
use Rattle.galois.specs.Degrees.{field_of}
use Rattle.protocol.specs.Lists.{all_below}
use Rattle.protocol.specs.Strings.{bytes}
use Rattle.protocol.specs.Frames.{num2}
use Rattle.protocol.specs.Shape.{shape_of}
use Rattle.protocol.specs.Questions.{solves}
use Rattle.protocol.specs.Calls.{test_form, commit_form, batch_form, prove_form, verify_form, honest_form, well_formed}
use Rattle.protocol.specs.Counting.{opening, factor}
use Rattle.theorems.specs.Statements.{error_of}
use Rattle.protocol.specs.Check.{eight}
use Rattle.theorems.proofs.TestLaws.{leb_le, all-at}
use Rattle.theorems.proofs.Demands.{demand_3}
use Rattle.examples.specs.Toy.{A, s, key_with, key, key₀, leaves, x, H', χ, out, proof, proof_qs1, proofṼ}
use Rattle.examples.specs.Hypotheses.{HypothesesMet}
use Rattle.examples.proofs.ToyComputing.{computing}
use Rattle.examples.proofs.ToyLeaves.{R, one_not_zero}
use Rattle.examples.proofs.ToyChallenges.{K, conditions_with, error_is, factor-by, count-is}
use Rattle.examples.proofs.ToyForged.{forged_well_formed, coefficients_are}

test-form : test_form eight key x ≡ true
unfolding computing
test-form = refl

commit-form : commit_form eight key leaves x (out 9) ≡ true
unfolding computing
commit-form = refl

batch-form : batch_form eight key leaves x χ (out 10) ≡ true
unfolding computing
batch-form = refl

prove-form : (y : ℕ) → y < 2 → prove_form eight (key_with y) leaves x H' χ (out 29) ≡ true
unfolding computing
prove-form zero l = refl
prove-form (suc zero) l = refl
prove-form (suc (suc y)) l = absurd (omega arith)

honest-form : honest_form eight key leaves x H' χ ≡ true
unfolding computing
honest-form = refl

solved : solves A s key x ≡ true
unfolding computing
solved = refl

verify-form : verify_form eight key (0x02 ∷ []) H' χ (opening A s leaves (0x02 ∷ [])) proof ≡ true
unfolding computing
verify-form = refl

honest_well_formed : well_formed eight key leaves H' χ proof ≡ true
unfolding computing
honest_well_formed = refl

QS1_well_formed : well_formed eight key leaves H' χ proof_qs1 ≡ true
unfolding computing
QS1_well_formed = refl

Ṽ_well_formed : well_formed eight key leaves H' χ proofṼ ≡ true
unfolding computing
Ṽ_well_formed = refl

bytes-by : (s : List ℕ) → all_below (length s) (λ i. leb (get_or s i 0) 255) ≡ true → bytes s
bytes-by s h i l = let k : get_or s i 0 ≤ 255 = leb_le _ 255 (all-at (length s) (λ i. leb (get_or s i 0) 255) h i l) in omega arith

leaves-bytes : bytes leaves
unfolding computing
leaves-bytes = bytes-by leaves refl

factor-none : factor A key leaves H' χ proofṼ 0 ≡ 0
unfolding computing
factor-none = factor-by 0x01 proofṼ (conditions_with 0x01 0x00 0x00) 0 refl refl

factor-one : factor A key leaves H' χ proof_qs1 0 ≡ 1
unfolding computing
factor-one = factor-by 0x01 proof_qs1 (conditions_with 0x00 0x01 0x00) 1 refl refl

factor-two : factor A key₀ leaves H' χ proof_qs1 0 ≡ 2
unfolding computing
factor-two = factor-by 0x00 proof_qs1 (conditions_with 0x00 0x01 0x05) 2 coefficients_are refl

factor-full : factor A key leaves H' χ proof 0 ≡ 256
unfolding computing
factor-full = factor-by 0x01 proof (conditions_with 0x00 0x00 0x00) 256 refl refl

error-one : error_of A key₀ leaves proof_qs1 0 0 ≢ R.𝟘
unfolding computing
error-one h = one_not_zero (sym (error_is 0x00 proof_qs1) ∙ h)

error-none : (i : ℕ) → i < 1 → error_of A key leaves proof 0 i ≡ R.𝟘
unfolding computing
error-none zero l = error_is 0x01 proof ∙ refl
error-none (suc i) l = absurd (omega arith)

failing-columns : zero_columns K (shape_of key₀).m (error_of A key₀ leaves proof_qs1 0) ≡ 1
unfolding field_of num2 key_with
failing-columns = (demand_3 eight key₀ leaves H' χ proof_qs1).columns_if_failing 0 0 (lit< tt) error-one

solving-columns : zero_columns K s.m (error_of A key leaves proof 0) ≡ 256
unfolding field_of num2 key_with
solving-columns = (demand_3 eight key leaves H' χ proof).columns_if_solving 0 error-none

pub hypotheses_met : HypothesesMet
hypotheses_met = record {
  test-form = test-form;
  commit-form = commit-form;
  batch-form = batch-form;
  prove-form = prove-form 0x01 (lit< tt);
  failing-form = prove-form 0x00 (lit< tt);
  honest-form = honest-form;
  solved = solved;
  verify-form = verify-form;
  honest_well_formed = honest_well_formed;
  QS1_well_formed = QS1_well_formed;
  Ṽ_well_formed = Ṽ_well_formed;
  forged_well_formed = forged_well_formed;
  leaves-bytes = leaves-bytes;
  factor-none = factor-none;
  factor-one = factor-one;
  factor-two = factor-two;
  factor-full = factor-full;
  forged_count = count-is 0x00 proof_qs1 forged_well_formed ∙ factor-two;
  honest-count = count-is 0x01 proof honest_well_formed ∙ factor-full;
  failing-columns = failing-columns;
  solving-columns = solving-columns;
}
