-- Demand 1 and demand 2 of the exports.
-- Assumes nothing.
use mathlib.Core.Path.{◌≡◌, sym, ap, ap₂, ◌∙◌, subst}
use mathlib.Core.Bool.{true, false}
use mathlib.Core.List.{List, [], ◌∷◌, ◌++◌}
use Prim.Native.Nat.{ℕ, ◌*◌}
use native.Mathlib.Omega.{arith}
use lib.ListN.{length, drop}
use Rattle.galois.specs.Degrees.{field_of}
use Rattle.protocol.specs.Alphabet.{Alphabet, elements_in, Lawful}
use Rattle.protocol.specs.Setting.{Setting, served, q16, alphabet_of}
use Rattle.protocol.specs.Shape.{Shape, shape_of, limits}
use Rattle.protocol.specs.Frames.{framed}
use Rattle.protocol.specs.Sections.{Sections, bytes_of, lengths, sections_in}
use Rattle.protocol.specs.Prover.{sections_of, proof_of}
use Rattle.protocol.specs.Answers.{Answer, Question, ask, word, Published}
use Rattle.protocol.specs.Questions.{h_exact, χExact, solves}
use Rattle.protocol.specs.Calls.{hash_questions, test_puts, commit_puts, batch_puts, prove_puts, verify_puts, test_answer, commit_answer, hash_answer, batch_answer, prove_answer, verify_answer, honest_questions, honest_form}
use Rattle.protocol.specs.Counting.{opening}
use Rattle.theorems.specs.Statements.{SomeFails, RefusedIff}
use Rattle.theorems.proofs.TestLaws.{all_true_lem, true-all}
use Rattle.theorems.proofs.Published.{all_published, refuses_exactly_when}
use Rattle.theorems.proofs.AnswerLaws.{ask_no, ask-accepts, Yes, all_yes_lem, yes_all}
use Rattle.theorems.proofs.BinaryLaws.{binary-lawful}
use Rattle.theorems.proofs.LimitLaws.{bounds_of}
use Rattle.theorems.proofs.HonestLaws.{exact, sections-back}
use Rattle.theorems.proofs.Theorems.{steps_are_whole, first-named}
use Rattle.theorems.proofs.Demands.{accepts_exactly_when, honest-proof-accepted}
use Rattle.sections.specs.Reading.{Reads}
use Rattle.sections.proofs.ReadingLaws.{proof_read}
use Rattle.demands.specs.Demands.{CommitWrites, HashWrites, BatchWrites, ProveWrites, VerifyTold, RefusedByEleven, EveryAnswerListed, EveryQuestionPut, PlacesNamed, RefusedKeeps, AcceptedWrites, RefusedWhenFails, VerifierAcceptsExactly, WrittenIsAccepted, StepsMakeWhole, StepsAreAccepted, ReadsBack, UnservedRefused, NoEleven}
use Rattle.demands.proofs.ToldLaws.{word-accepted, only-accepted, not-zero, kept, wrote, asked_told, refusal_told}

pub refused-keeps : RefusedKeeps
refused-keeps answer before after string r t n = kept answer before after string t.1 (λ z. n (t.0 ∙ z))

-- every question got a yes, where the number is 0
pub yes_told : (s : Shape) (qs : List Question) → Published s (ask qs) → 0 ≡ word (ask qs) → Yes qs
yes_told s qs listed z = all_yes_lem qs ((ask-accepts qs).0 (only-accepted s (ask qs) listed (sym z)))

module _ (g : Setting) where
  abbrev A : Alphabet
  A = alphabet_of g

  laws : Lawful (alphabet_of g)
  laws = binary-lawful (field_of g.degree)

  pub every-answer-listed : EveryAnswerListed g
  every-answer-listed = record {
    test-listed = λ key x r t. (_, t, (all_published g).test_published key x);
    commit-listed = λ key leaves x before after r t. (_, t.0, (all_published g).commit_published key leaves x before);
    hash-listed = λ key leaves H' before after r t. (_, t.0, (all_published g).hash_published key leaves H' before);
    batch-listed = λ key leaves x χ before after r t. (_, t.0, (all_published g).batch_published key leaves x χ before);
    prove-listed = λ key leaves x H' χ before after r t. (_, t.0, (all_published g).prove_published key leaves x H' χ before);
    verify-listed = λ key Δ H' χ opened proof r t. (_, t, (all_published g).verify_published key Δ H' χ opened proof);
  }

  pub every_question_put : EveryQuestionPut g
  unfolding test_answer commit_answer hash_answer batch_answer prove_answer verify_answer
  every_question_put = record {
    test_put = λ key x r t. asked_told A (shape_of key) _ _ _ ((all_published g).test_published key x) r t;
    commit_put = λ key leaves x before after r t. asked_told A (shape_of key) _ _ _ ((all_published g).commit_published key leaves x before) r t.0;
    hash_put = λ key leaves H' before after r t. asked_told A (shape_of key) _ _ _ ((all_published g).hash_published key leaves H' before) r t.0;
    batch_put = λ key leaves x χ before after r t. asked_told A (shape_of key) _ _ _ ((all_published g).batch_published key leaves x χ before) r t.0;
    prove_put = λ key leaves x H' χ before after r t. asked_told A (shape_of key) _ _ _ ((all_published g).prove_published key leaves x H' χ before) r t.0;
    verify_put = λ key Δ H' χ opened proof r t. asked_told A (shape_of key) _ _ _ ((all_published g).verify_published key Δ H' χ opened proof) r t;
  }

  pub accepted-writes : AcceptedWrites g
  accepted-writes = record {
    commit-writes = λ key leaves x before after t. wrote (shape_of key) _ before after _ ((all_published g).commit_published key leaves x before) t.0 t.1;
    hash-writes = λ key leaves H' before after t. wrote (shape_of key) _ before after _ ((all_published g).hash_published key leaves H' before) t.0 t.1;
    batch-writes = λ key leaves x χ before after t. wrote (shape_of key) _ before after _ ((all_published g).batch_published key leaves x χ before) t.0 t.1;
    prove-writes = λ key leaves x H' χ before after t. wrote (shape_of key) _ before after _ ((all_published g).prove_published key leaves x H' χ before) t.0 t.1;
  }

  pub places_named : PlacesNamed g
  unfolding test_answer commit_answer batch_answer prove_answer verify_answer
  places_named = record {
    test_names = λ key x i l t. (first-named g).test-eleven key x i (refusal_told A (shape_of key) _ _ _ ((all_published g).test_published key x) 10 i l t);
    commit_names = λ key leaves x before after i l t. (first-named g).commit-eleven key leaves x before i (refusal_told A (shape_of key) _ _ _ ((all_published g).commit_published key leaves x before) 10 i l t.0);
    batch_names = λ key leaves x χ before after i l t. (first-named g).batch-eleven key leaves x χ before i (refusal_told A (shape_of key) _ _ _ ((all_published g).batch_published key leaves x χ before) 10 i l t.0);
    prove_names = λ key leaves x H' χ before after i l t. (first-named g).prove-eleven key leaves x H' χ before i (refusal_told A (shape_of key) _ _ _ ((all_published g).prove_published key leaves x H' χ before) 10 i l t.0);
    fourteen = λ key Δ H' χ opened proof e l t.
        (first-named g).fourteen key Δ H' χ opened proof e (refusal_told A (shape_of key) _ _ _ ((all_published g).verify_published key Δ H' χ opened proof) 13 e l t);
    fifteen = λ key Δ H' χ opened proof e l t.
        (first-named g).fifteen key Δ H' χ opened proof e (refusal_told A (shape_of key) _ _ _ ((all_published g).verify_published key Δ H' χ opened proof) 14 e l t);
  }

  -- what the answer says of the equations, its number says
  by-eleven : (key x : List ℕ) (a : Answer) (r : ℕ) → Published (shape_of key) a → r ≡ word a → RefusedIff A key x a → RefusedByEleven g key x r
  unfolding word
  by-eleven key x a r listed w i =
      (not-zero (shape_of key) a r (SomeFails A key x) listed w i.0, λ n. let t = i.1 (λ e. n (w ∙ ap word e ∙ word-accepted)) in (t.0, t.1, w ∙ ap word t.2))

  pub refused_when_fails : RefusedWhenFails g
  refused_when_fails = record {
    test-fails = λ key x r f t. by-eleven key x _ r ((all_published g).test_published key x) t ((refuses_exactly_when g).test_refuses key x f);
    commit-fails = λ key leaves x before after r f t. by-eleven key x _ r ((all_published g).commit_published key leaves x before) t.0 ((refuses_exactly_when g).commit_refuses key leaves x before f);
    batch-fails = λ key leaves x χ before after r f t. by-eleven key x _ r ((all_published g).batch_published key leaves x χ before) t.0 ((refuses_exactly_when g).batch_refuses key leaves x χ before f);
    prove-fails = λ key leaves x H' χ before after r f t. by-eleven key x _ r ((all_published g).prove_published key leaves x H' χ before) t.0 ((refuses_exactly_when g).prove_refuses key leaves x H' χ before f);
  }

  pub steps_make_whole : StepsMakeWhole g
  steps_make_whole key leaves x H' χ b₁ a₁ b₂ a₂ b₃ a₃ commit hash batch =
      ap₂ (λ (p q : List ℕ). p ++ q) (accepted-writes.commit-writes key leaves x b₁ a₁ commit)
      (ap₂ (λ (p q : List ℕ). p ++ q) (accepted-writes.hash-writes key leaves H' b₂ a₂ hash) (accepted-writes.batch-writes key leaves x χ b₃ a₃ batch))
      ∙ steps_are_whole A key leaves x H' χ

  pub verifier_accepts_exactly : VerifierAcceptsExactly g
  verifier_accepts_exactly key Δ H' χ opened proof r form told =
      let exactly = accepts_exactly_when g key Δ H' χ opened proof form in
      (λ z. exactly.0 (only-accepted (shape_of key) _ ((all_published g).verify_published key Δ H' χ opened proof) (sym told ∙ z)), λ hold. told ∙ ap word (exactly.1 hold) ∙ word-accepted)

  -- ---- what an accepted call was lent

  -- the form of an honest proof's inputs, a solved system, and sizes in range
  abbrev pub Honest : List ℕ → List ℕ → List ℕ → List ℕ → List ℕ → Type 0
  Honest key leaves x H' χ = (honest_form g key leaves x H' χ ≡ true) × (solves A (shape_of key) key x ≡ true) × (limits (shape_of key) ≡ true)

  pub proved : (key leaves x H' χ before after : List ℕ) → ProveWrites g key leaves x H' χ before after 0 → Honest key leaves x H' χ
  unfolding prove_answer honest_form
  proved key leaves x H' χ before after t =
      let y =
      yes_told (shape_of key) (prove_puts g key leaves x H' χ before) ((all_published g).prove_published key leaves x H' χ before) t.0 in
      let r = y.1.1.1.1.1.1 in
      (yes_all (honest_questions g key leaves x H' χ) (y.0, (y.1.0, (y.1.1.0, (y.1.1.1.0, (y.1.1.1.1.0, (y.1.1.1.1.1.0, (r.0, (r.1.0, (r.1.1.0, (r.1.1.1.0, (r.1.1.1.1.0, tt))))))))))), r.1.1.1.1.1.1.0, y.1.1.0)

  stepped : (key leaves x H' χ b₁ a₁ b₂ a₂ b₃ a₃ : List ℕ) → CommitWrites g key leaves x b₁ a₁ 0 → HashWrites g key leaves H' b₂ a₂ 0 → BatchWrites g key leaves x χ b₃ a₃ 0 → Honest key leaves x H' χ
  unfolding commit_answer hash_answer batch_answer honest_form
  stepped key leaves x H' χ b₁ a₁ b₂ a₂ b₃ a₃ c h t =
      let s = shape_of key in
      let y =
      yes_told s (commit_puts g key leaves x b₁) ((all_published g).commit_published key leaves x b₁) c.0 in
      let z = yes_told s (hash_questions g key leaves H' b₂) ((all_published g).hash_published key leaves H' b₂) h.0 in
      let w = yes_told s (batch_puts g key leaves x χ b₃) ((all_published g).batch_published key leaves x χ b₃) t.0 in
      let exact =
      true-all (h_exact A s H' ∷ χExact A s χ ∷ [])
      ((all_true_lem (h_exact A s H' ∷ []) z.1.1.1.1.1.0).0, ((all_true_lem (χExact A s χ ∷ []) w.1.1.1.1.1.0).0, tt)) in
      let k = y.1.1.1.1.1 in
      (yes_all (honest_questions g key leaves x H' χ) (y.0, (y.1.0, (y.1.1.0, (y.1.1.1.0, (y.1.1.1.1.0, (exact, (z.1.1.1.1.1.1.0, (w.1.1.1.1.1.1.0, (k.0, (k.1.0, (k.1.1.0, tt))))))))))), k.1.1.1.1.0, y.1.1.0)

  honest_told : (key leaves x H' χ proof Δ : List ℕ) (r : ℕ) → Honest key leaves x H' χ → proof ≡ proof_of A key leaves x H' χ → length Δ ≡ (shape_of key).τ → elements_in A Δ ≡ true
      → VerifyTold g key Δ H' χ (opening A (shape_of key) leaves Δ) proof r → r ≡ 0
  honest_told key leaves x H' χ proof Δ r honest is long small told =
      told
      ∙ ap word (ap (verify_answer g key Δ H' χ (opening A (shape_of key) leaves Δ)) is ∙ honest-proof-accepted g key leaves x H' χ Δ honest.0 honest.1 long small)
      ∙ word-accepted

  pub written_is_accepted : WrittenIsAccepted g
  written_is_accepted key leaves x H' χ before after Δ r writes long small told =
      honest_told key leaves x H' χ after Δ r (proved key leaves x H' χ before after writes) (accepted-writes.prove-writes key leaves x H' χ before after writes) long small told

  pub steps_are_accepted : StepsAreAccepted g
  steps_are_accepted key leaves x H' χ b₁ a₁ b₂ a₂ b₃ a₃ Δ r commit hash batch long small told =
      honest_told key leaves x H' χ (a₁ ++ (a₂ ++ a₃)) Δ r (stepped key leaves x H' χ b₁ a₁ b₂ a₂ b₃ a₃ commit hash batch)
      (steps_make_whole key leaves x H' χ b₁ a₁ b₂ a₂ b₃ a₃ commit hash batch) long small told

  -- a string that is the proof's bytes, and sections that are its own
  read_as : (s : Shape) (after : List ℕ) (P : Sections) → after ≡ bytes_of P → sections_in A s (bytes_of P) ≡ P → framed (lengths A s) (bytes_of P) ≡ true
      → Reads after 0 (lengths A s) (P.C ∷ P.d ∷ P.ũ ∷ P.Ṽ ∷ P.QS0 ∷ P.QS1 ∷ [])
  read_as s after P e f whole =
      subst (λ (z : List ℕ). Reads z 0 (lengths A s) (P.C ∷ P.d ∷ P.ũ ∷ P.Ṽ ∷ P.QS0 ∷ P.QS1 ∷ [])) (sym e)
      (subst (λ (p : Sections). Reads (bytes_of P) 0 (lengths A s) (p.C ∷ p.d ∷ p.ũ ∷ p.Ṽ ∷ p.QS0 ∷ p.QS1 ∷ [])) f (proof_read A s (bytes_of P) whole))

  pub reads-back : ReadsBack g
  unfolding proof_of
  reads-back key leaves x H' χ before after writes =
      let s = shape_of key in
      read_as s after (sections_of A s leaves key x H' χ) (accepted-writes.prove-writes key leaves x H' χ before after writes) (sections-back A laws s leaves key x H' χ)
      (exact A laws s leaves key x H' χ (bounds_of s (proved key leaves x H' χ before after writes).2))

  -- a list that begins with 16 is refused by it
  by_sixteen : (qs : List Question) (r : ℕ) → served g ≡ false → r ≡ word (ask (q16 g ∷ qs)) → r ≡ 16 * 65536
  unfolding word
  by_sixteen qs r h w = w ∙ ap word (ask_no (q16 g) qs h)

  pub unserved_refused : UnservedRefused g
  unfolding test_answer commit_answer hash_answer batch_answer prove_answer verify_answer
  unserved_refused = record {
    test_unserved = λ key x r h t. by_sixteen (drop 1 (test_puts g key x)) r h t;
    commit_unserved = λ key leaves x before after r h t. by_sixteen (drop 1 (commit_puts g key leaves x before)) r h t.0;
    hash_unserved = λ key leaves H' before after r h t. by_sixteen (drop 1 (hash_questions g key leaves H' before)) r h t.0;
    batch_unserved = λ key leaves x χ before after r h t. by_sixteen (drop 1 (batch_puts g key leaves x χ before)) r h t.0;
    prove_unserved = λ key leaves x H' χ before after r h t. by_sixteen (drop 1 (prove_puts g key leaves x H' χ before)) r h t.0;
    verify_unserved = λ key Δ H' χ opened proof r h t. by_sixteen (drop 1 (verify_puts g key Δ H' χ opened proof)) r h t;
  }

  pub no_eleven : NoEleven g
  no_eleven = record {
    test-eleven = λ key x i none l t. absurd (omega (arith, none, (places_named.test_names key x i l t).0.0));
    commit-eleven = λ key leaves x before after i none l t. absurd (omega (arith, none, (places_named.commit_names key leaves x before after i l t).0.0));
    batch-eleven = λ key leaves x χ before after i none l t. absurd (omega (arith, none, (places_named.batch_names key leaves x χ before after i l t).0.0));
    prove-eleven = λ key leaves x H' χ before after i none l t. absurd (omega (arith, none, (places_named.prove_names key leaves x H' χ before after i l t).0.0));
  }
