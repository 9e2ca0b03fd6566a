-- What an accepted answer to the questions on form says.
-- Assumes nothing.
use mathlib.Core.Path.{◌≡◌, ◌∙◌}
use mathlib.Core.Bool.{true}
use mathlib.Core.List.{List, [], ◌∷◌}
use Prim.Native.Nat.{ℕ, ◌+◌, ◌*◌, ◌-◌}
use native.Mathlib.Omega.{arith}
use lib.Dec.{eqb}
use lib.ListN.{length}
use Rattle.algebra.proofs.CountLaws.{and_left, and_right}
use Rattle.protocol.specs.Strings.{bytes_for, spare_zero}
use Rattle.protocol.specs.Frames.{framed_length}
use Rattle.protocol.specs.Alphabet.{elements_in}
use Rattle.protocol.specs.Setting.{Setting, alphabet_of}
use Rattle.protocol.specs.Shape.{Shape, shape_of, w_of}
use Rattle.protocol.specs.Sections.{lengths, commit_lengths, hash_lengths, batch_lengths}
use Rattle.protocol.specs.Answers.{accepted, ask}
use Rattle.protocol.specs.Questions.{h_exact, χExact, witness_form}
use Rattle.protocol.specs.Calls.{test_questions, commit_questions, hash_questions, batch_questions, prove_questions}
use Rattle.theorems.proofs.TestLaws.{eqb_eq, leb_le, all_true_lem}
use Rattle.theorems.proofs.AnswerLaws.{ask-accepts, all_yes_lem}
use Rattle.format.proofs.FitLaws.{batching_of}
use Rattle.questions.specs.Facts.{KeyFacts, WitnessForm, TestFacts, CommitFacts, HashFacts, BatchFacts, ProveFacts}

witness_of : (g : Setting) (s : Shape) (x : List ℕ) → witness_form (alphabet_of g) s x ≡ true → WitnessForm (alphabet_of g) s x
unfolding witness_form
witness_of g s x h =
    record {
      witness-length = eqb_eq _ _ (and_left (eqb (length x) (bytes_for s.n)) (spare_zero x s.n) h);
      witness-spare = and_right (eqb (length x) (bytes_for s.n)) (spare_zero x s.n) h;
    }

commit-out : (g : Setting) (s : Shape) (out : List ℕ) → eqb (length out) (framed_length (commit_lengths (alphabet_of g) s)) ≡ true → length out ≡ 8 + (s.τ - 1) * w_of (alphabet_of g) s + bytes_for s.n
unfolding framed_length commit_lengths
commit-out g s out h = eqb_eq _ _ h ∙ omega arith

hash-out : (g : Setting) (s : Shape) (out : List ℕ) → eqb (length out) (framed_length (hash_lengths (alphabet_of g) s)) ≡ true → length out ≡ 8 + bytes_for s.t + s.τ * s.t
unfolding framed_length hash_lengths
hash-out g s out h = eqb_eq _ _ h ∙ omega arith

batch-out : (g : Setting) (s : Shape) (out : List ℕ) → eqb (length out) (framed_length (batch_lengths (alphabet_of g) s)) ≡ true → length out ≡ 8 + s.τ + s.τ
unfolding framed_length batch_lengths
batch-out g s out h = eqb_eq _ _ h ∙ omega arith

prove-out : (g : Setting) (s : Shape) (out : List ℕ) → eqb (length out) (framed_length (lengths (alphabet_of g) s)) ≡ true
    → length out ≡ 24 + (s.τ - 1) * w_of (alphabet_of g) s + bytes_for s.n + bytes_for s.t + s.τ * s.t + s.τ + s.τ
unfolding framed_length lengths
prove-out g s out h = eqb_eq _ _ h ∙ omega arith

module _ (g : Setting) (key : List ℕ) where
  abbrev s : Shape
  s = shape_of key

  pub test-facts : (x : List ℕ) → ask (test_questions g key x) ≡ accepted → TestFacts (alphabet_of g) (shape_of key) key x
  test-facts x h =
      let t = all_yes_lem (test_questions g key x) ((ask-accepts (test_questions g key x)).0 h) in
      record { of-key = record { header = leb_le _ _ t.1.0; in-range = t.1.1.0; key-exact = t.1.1.1.0; key-spare = t.1.1.1.1.0 }; of_witness = witness_of g s x t.1.1.1.1.1.0 }

  pub commit-facts : (leaves x out : List ℕ) → ask (commit_questions g key leaves x out) ≡ accepted → KeyFacts (alphabet_of g) (shape_of key) key × CommitFacts (alphabet_of g) (shape_of key) leaves x out
  commit-facts leaves x out h =
      let t = all_yes_lem (commit_questions g key leaves x out) ((ask-accepts (commit_questions g key leaves x out)).0 h) in
      let r = t.1.1.1.1.1 in (
        record { header = leb_le _ _ t.1.0; in-range = t.1.1.0; key-exact = t.1.1.1.0; key-spare = t.1.1.1.1.0 },
        record {
          in-range = t.1.1.0;
          of_leaves = record { leaves-exact = r.0; leaves-spare = r.1.0 };
          of_witness = witness_of g s x r.1.1.0;
          of_out = commit-out g s out r.1.1.1.0;
        },
      )

  pub hash-facts : (leaves H' out : List ℕ) → ask (hash_questions g key leaves H' out) ≡ accepted → KeyFacts (alphabet_of g) (shape_of key) key × HashFacts (alphabet_of g) (shape_of key) leaves H' out
  hash-facts leaves H' out h =
      let t = all_yes_lem (hash_questions g key leaves H' out) ((ask-accepts (hash_questions g key leaves H' out)).0 h) in
      let r = t.1.1.1.1.1 in
      let q = all_true_lem (h_exact (alphabet_of g) s H' ∷ []) r.0 in (
        record { header = leb_le _ _ t.1.0; in-range = t.1.1.0; key-exact = t.1.1.1.0; key-spare = t.1.1.1.1.0 },
        record {
          in-range = t.1.1.0;
          of_hash = record { hash-exact = q.0; hash-spare = r.1.0 };
          of_leaves = record { leaves-exact = r.1.1.0; leaves-spare = r.1.1.1.0 };
          of_out = hash-out g s out r.1.1.1.1.0;
        },
      )

  pub batch-facts : (leaves x χ out : List ℕ) → ask (batch_questions g key leaves x χ out) ≡ accepted → BatchFacts (alphabet_of g) (shape_of key) key leaves x χ out
  batch-facts leaves x χ out h =
      let t = all_yes_lem (batch_questions g key leaves x χ out) ((ask-accepts (batch_questions g key leaves x χ out)).0 h) in
      let r = t.1.1.1.1.1 in
      let q = all_true_lem (χExact (alphabet_of g) s χ ∷ []) r.0 in
      record {
        of-key = record { header = leb_le _ _ t.1.0; in-range = t.1.1.0; key-exact = t.1.1.1.0; key-spare = t.1.1.1.1.0 };
        of_batching = batching_of g s χ q.0;
        of_elements = (all_true_lem (elements_in (alphabet_of g) χ ∷ []) r.1.0).0;
        of_leaves = record { leaves-exact = r.1.1.0; leaves-spare = r.1.1.1.0 };
        of_witness = witness_of g s x r.1.1.1.1.0;
        of_out = batch-out g s out r.1.1.1.1.1.0;
      }

  pub prove-facts : (leaves x H' χ out : List ℕ) → ask (prove_questions g key leaves x H' χ out) ≡ accepted → ProveFacts (alphabet_of g) (shape_of key) key leaves x H' χ out
  prove-facts leaves x H' χ out h =
      let t = all_yes_lem (prove_questions g key leaves x H' χ out) ((ask-accepts (prove_questions g key leaves x H' χ out)).0 h) in
      let r = t.1.1.1.1.1 in
      let q = all_true_lem (h_exact (alphabet_of g) s H' ∷ χExact (alphabet_of g) s χ ∷ []) r.0 in
      record {
        of-key = record { header = leb_le _ _ t.1.0; in-range = t.1.1.0; key-exact = t.1.1.1.0; key-spare = t.1.1.1.1.0 };
        of_hash = record { hash-exact = q.0; hash-spare = r.1.0 };
        of_batching = batching_of g s χ q.1.0;
        of_elements = (all_true_lem (elements_in (alphabet_of g) χ ∷ []) r.1.1.0).0;
        of_leaves = record { leaves-exact = r.1.1.1.0; leaves-spare = r.1.1.1.1.0 };
        of_witness = witness_of g s x r.1.1.1.1.1.0;
        of_out = prove-out g s out r.1.1.1.1.1.1.0;
      }
