-- Demand 3 of mq_verify: its numbers count as its answers do.
-- Assumes nothing.
use mathlib.Core.Path.{◌≡◌, refl, ap, subst, ◌∙◌}
use mathlib.Core.List.{List, map}
use Prim.Native.Nat.{ℕ, ◌*◌, ◌^◌, ◌<◌}
use native.Mathlib.Omega.{arith}
use lib.Dec.{eqb}
use lib.ListN.{get_or, length-map}
use Rattle.algebra.proofs.CountLaws.{words_congr}
use Rattle.protocol.specs.Strings.{bytes}
use Rattle.galois.specs.Degrees.{size_of as fieldSize}
use Rattle.galois.proofs.DegreeLaws.{size-most}
use Rattle.protocol.specs.Alphabet.{Alphabet}
use Rattle.protocol.specs.Setting.{Setting, alphabet_of}
use Rattle.protocol.specs.Shape.{Shape, shape_of, per_tree, w_of}
use Rattle.protocol.specs.Answers.{Answer, refused, word, is_accepted, Published}
use Rattle.protocol.specs.Calls.{verify_answer}
use Rattle.protocol.specs.Counting.{opening, accepted_count}
use Rattle.theorems.proofs.TestLaws.{eqb_eq, eqb_same, bool_iff}
use Rattle.theorems.proofs.ListLaws.{get_d_map}
use Rattle.theorems.proofs.LeafLaws.{opened-bytes}
use Rattle.theorems.proofs.AnswerLaws.{accepted_of}
use Rattle.theorems.proofs.Published.{all_published}
use Rattle.theorems.proofs.Demands.{demand_3}
use Rattle.demands.specs.Forgery.{Answers, accepts, accepted_by, VerifierBound}
use Rattle.demands.proofs.ToldLaws.{word-accepted, only-accepted}

-- of an answer in the list, the number is 0 exactly where it accepts
zero-accepts : (s : Shape) (a : Answer) → Published s a → eqb (word a) 0 ≡ is_accepted a
zero-accepts s a p =
    bool_iff (eqb (word a) 0) (is_accepted a) (λ h. ap is_accepted (only-accepted s a p (eqb_eq (word a) 0 h)))
    (λ h. eqb_same (word a) 0 (ap word (accepted_of a h) ∙ word-accepted))

word_seventeen : word (refused 17 0) ≡ 17 * 65536
unfolding word
word_seventeen = refl

module _ (g : Setting) where
  abbrev A : Alphabet
  A = alphabet_of g

  -- what a challenge string and its opening are made of
  numbers-bytes : (z : List A.K.base.R.F) → bytes (map A.K.byte z)
  unfolding fieldSize
  numbers-bytes z i l = rw (get_d_map A.K.byte z i A.K.base.R.𝟘 0 (rw (length-map z A.K.byte) at l)) (omega (arith, A.K.byte_lt (get_or z i A.K.base.R.𝟘), size-most g.degree))

  opening-bytes : (s : Shape) (leaves Δ : List ℕ) → bytes leaves → bytes (opening A s leaves Δ)
  unfolding opening
  opening-bytes s leaves Δ h = opened-bytes (per_tree A) (w_of A s) s.τ leaves Δ h

  module _ (key leaves H' χ proof : List ℕ) (call : List ℕ → List ℕ → ℕ) (small : bytes leaves) (answers : Answers g key H' χ proof call) where
    abbrev answer : List ℕ → Answer
    answer Δ = verify_answer g key Δ H' χ (opening A (shape_of key) leaves Δ) proof

    same_test : (Δ : List ℕ) → bytes Δ → accepts g key leaves call Δ ≡ is_accepted (answer Δ)
    same_test Δ b =
        ap (λ (r : ℕ). eqb r 0) (answers Δ (opening A (shape_of key) leaves Δ) b (opening-bytes (shape_of key) leaves Δ small))
        ∙ zero-accepts (shape_of key) (answer Δ) ((all_published g).verify_published key Δ H' χ (opening A (shape_of key) leaves Δ) proof)

    same_count : accepted_by g key leaves call ≡ accepted_count g key leaves H' χ proof
    unfolding accepted_count
    same_count = words_congr A.K.base.elements (shape_of key).τ _ _ (λ z l. same_test (map A.K.byte z) (numbers-bytes z))

  -- there is such a call, so that the bound is of something
  pub answers_met : (key H' χ proof : List ℕ) → Answers g key H' χ proof (λ Δ opened. word (verify_answer g key Δ H' χ opened proof))
  answers_met key H' χ proof Δ opened b c = refl

  pub verifier_bound : VerifierBound g
  verifier_bound key leaves H' χ proof call form small answers =
      let d = demand_3 g key leaves H' χ proof in
      let same = same_count key leaves H' χ proof call small answers in
      record {
        count_is_product = same ∙ d.count_equals_product form;
        other-bytes-refused = λ Δ opened b c n e. answers Δ opened b c ∙ ap word (d.other-bytes-refused form Δ opened n e) ∙ word_seventeen;
        every_challenge_once = d.every_challenge_once;
        challenges_in_all = d.challenges_in_all;
        each-factor = d.each-factor form;
        large_count_needs_full = λ h. d.large_count_needs_full form (subst (λ (n : ℕ). 2 ^ (shape_of key).τ < n) same h);
        full-spells-candidate = d.full-spells-candidate form;
        candidate_is_witness = d.candidate_is_witness;
        that_sum = d.that_sum;
        columns_if_failing = d.columns_if_failing;
        columns_if_solving = d.columns_if_solving;
        every_column_once = d.every_column_once;
        columns_in_all = d.columns_in_all;
      }
