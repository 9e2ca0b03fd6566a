-- Demand 1 and demand 2 of the exports, over what their contracts promise. Demand 3 is in Forgery.
--   Listed s r == r is 0, or number × 65,536 + place of a refusal in the published list, for a key of sizes s
--   Asked qs r == r is 0 and every question of qs gets a yes, or r is number × 65,536 + place of the first that gets a
--     no
--   RefusedByEleven key x r == r is a refusal exactly when some equation of the key fails at x, and then 11 × 65,536
--     + i, i the lowest-numbered one that does
--   TestTold, CommitWrites, HashWrites, BatchWrites, ProveWrites == the promises of mq_test, mq_commit, mq_hash,
--     mq_batch, mq_prove: their inputs, the output before and after, the number
--   VerifyTold == the promise of mq_verify, which writes nothing: its inputs, the number
-- Assumes nothing.
use Rattle.std.specs.Prelude.{◌≡◌, ◌⊎◌, ◌↔◌, ◌≢◌, true, false, List, [], ◌∷◌, ◌++◌, ℕ, ◌+◌, ◌*◌, ◌<◌, length}
use Rattle.protocol.specs.Alphabet.{Alphabet, elements_in}
use Rattle.protocol.specs.Setting.{Setting, served, alphabet_of}
use Rattle.protocol.specs.Shape.{Shape, shape_of}
use Rattle.protocol.specs.Prover.{sections_of, commit_bytes, hash_bytes, batch_bytes, proof_of}
use Rattle.protocol.specs.Sections.{lengths}
use Rattle.protocol.specs.Answers.{Answer, Question, all_yes, word, Published}
use Rattle.protocol.specs.Questions.{consistent_in, product_in}
use Rattle.protocol.specs.Calls.{hash_questions, test_puts, commit_puts, batch_puts, prove_puts, verify_puts, test_answer, commit_answer, hash_answer, batch_answer, prove_answer, verify_answer}
use Rattle.protocol.specs.Calls.{test_form, commit_form, batch_form, prove_form, verify_form}
use Rattle.protocol.specs.Counting.{opening}
use Rattle.theorems.specs.Statements.{FirstNo, FirstFailing, FirstFails, SomeFails}
use Rattle.sections.specs.Reading.{Reads}
use Rattle.demands.specs.Told.{Writes}

abbrev pub Listed : Shape → ℕ → Type 0
Listed s r = (a : Answer) × (r ≡ word a) × Published s a

abbrev pub Asked : List Question → ℕ → Type 0
Asked qs r = ((r ≡ 0) × (all_yes qs ≡ true)) ⊎ ((r ≢ 0) × (i : ℕ) × (p : ℕ) × (p < 65536) × (r ≡ i * 65536 + p) × FirstNo qs i p)

-- "a refused call changes no lent byte": of any export that writes. Inputs are lent for reading only, and mq_verify is
-- lent nothing else.
abbrev pub RefusedKeeps : Type 0
RefusedKeeps = (answer : Answer) (before after string : List ℕ) (r : ℕ) → Writes answer before after string r → r ≢ 0 → after ≡ before

-- In every setting.
module _ (g : Setting) where
  abbrev pub A : Alphabet
  A = alphabet_of g

  module _ (key : List ℕ) where
    abbrev pub TestTold : List ℕ → ℕ → Type 0
    TestTold x r = r ≡ word (test_answer g key x)

    abbrev pub CommitWrites : List ℕ → List ℕ → List ℕ → List ℕ → ℕ → Type 0
    CommitWrites leaves x before after = Writes (commit_answer g key leaves x before) before after (commit_bytes A key leaves x)

    abbrev pub HashWrites : List ℕ → List ℕ → List ℕ → List ℕ → ℕ → Type 0
    HashWrites leaves H' before after = Writes (hash_answer g key leaves H' before) before after (hash_bytes A key leaves H')

    abbrev pub BatchWrites : List ℕ → List ℕ → List ℕ → List ℕ → List ℕ → ℕ → Type 0
    BatchWrites leaves x χ before after = Writes (batch_answer g key leaves x χ before) before after (batch_bytes A key leaves x χ)

    abbrev pub ProveWrites : List ℕ → List ℕ → List ℕ → List ℕ → List ℕ → List ℕ → ℕ → Type 0
    ProveWrites leaves x H' χ before after = Writes (prove_answer g key leaves x H' χ before) before after (proof_of A key leaves x H' χ)

    abbrev pub VerifyTold : List ℕ → List ℕ → List ℕ → List ℕ → List ℕ → ℕ → Type 0
    VerifyTold Δ H' χ opened proof r = r ≡ word (verify_answer g key Δ H' χ opened proof)

  abbrev pub RefusedByEleven : List ℕ → List ℕ → ℕ → Type 0
  RefusedByEleven key x r = ((r ≢ 0) ↔ SomeFails A key x) × (r ≢ 0 → (i : ℕ) × FirstFails A key x i × (r ≡ 11 * 65536 + i))

  -- "every input is taken or refused by a number and place from a published list"
  pub record EveryAnswerListed : Type 0 where
    pub test-listed : (key x : List ℕ) (r : ℕ) → TestTold key x r → Listed (shape_of key) r
    pub commit-listed : (key leaves x before after : List ℕ) (r : ℕ) → CommitWrites key leaves x before after r → Listed (shape_of key) r
    pub hash-listed : (key leaves H' before after : List ℕ) (r : ℕ) → HashWrites key leaves H' before after r → Listed (shape_of key) r
    pub batch-listed : (key leaves x χ before after : List ℕ) (r : ℕ) → BatchWrites key leaves x χ before after r → Listed (shape_of key) r
    pub prove-listed : (key leaves x H' χ before after : List ℕ) (r : ℕ) → ProveWrites key leaves x H' χ before after r → Listed (shape_of key) r
    pub verify-listed : (key Δ H' χ opened proof : List ℕ) (r : ℕ) → VerifyTold key Δ H' χ opened proof r → Listed (shape_of key) r

  -- "Each call puts those that concern its inputs, in this order. A no ends the call with that number."
  pub record EveryQuestionPut : Type 0 where
    pub test_put : (key x : List ℕ) (r : ℕ) → TestTold key x r → Asked (test_puts g key x) r
    pub commit_put : (key leaves x before after : List ℕ) (r : ℕ) → CommitWrites key leaves x before after r → Asked (commit_puts g key leaves x before) r
    pub hash_put : (key leaves H' before after : List ℕ) (r : ℕ) → HashWrites key leaves H' before after r → Asked (hash_questions g key leaves H' before) r
    pub batch_put : (key leaves x χ before after : List ℕ) (r : ℕ) → BatchWrites key leaves x χ before after r → Asked (batch_puts g key leaves x χ before) r
    pub prove_put : (key leaves x H' χ before after : List ℕ) (r : ℕ) → ProveWrites key leaves x H' χ before after r → Asked (prove_puts g key leaves x H' χ before) r
    pub verify_put : (key Δ H' χ opened proof : List ℕ) (r : ℕ) → VerifyTold key Δ H' χ opened proof r → Asked (verify_puts g key Δ H' χ opened proof) r

  -- Each place of that list means what the list says, of any input: the first equation that fails, or the first
  -- repetition where the check fails.
  pub record PlacesNamed : Type 0 where
    -- "11, with the number of some equation that fails", since request 2 the lowest-numbered
    pub test_names : (key x : List ℕ) (i : ℕ) → i < 65536 → TestTold key x (11 * 65536 + i) → FirstFails A key x i
    pub commit_names : (key leaves x before after : List ℕ) (i : ℕ) → i < 65536 → CommitWrites key leaves x before after (11 * 65536 + i) → FirstFails A key x i
    pub batch_names : (key leaves x χ before after : List ℕ) (i : ℕ) → i < 65536 → BatchWrites key leaves x χ before after (11 * 65536 + i) → FirstFails A key x i
    pub prove_names : (key leaves x H' χ before after : List ℕ) (i : ℕ) → i < 65536 → ProveWrites key leaves x H' χ before after (11 * 65536 + i) → FirstFails A key x i
    -- "14, with the first e where not"
    pub fourteen : (key Δ H' χ opened proof : List ℕ) (e : ℕ) → e < 65536 → VerifyTold key Δ H' χ opened proof (14 * 65536 + e)
        → FirstFailing (shape_of key).τ (consistent_in A (shape_of key) Δ H' opened proof) e
    -- "15, with the first e where not": and consistency holds in every repetition
    pub fifteen : (key Δ H' χ opened proof : List ℕ) (e : ℕ) → e < 65536 → VerifyTold key Δ H' χ opened proof (15 * 65536 + e)
        → FirstFailing (shape_of key).τ (product_in A (shape_of key) key Δ χ opened proof) e
        × ((i : ℕ) → i < (shape_of key).τ → consistent_in A (shape_of key) Δ H' opened proof i ≡ true)

  -- An accepted call has written the definition's bytes.
  pub record AcceptedWrites : Type 0 where
    pub commit-writes : (key leaves x before after : List ℕ) → CommitWrites key leaves x before after 0 → after ≡ commit_bytes A key leaves x
    pub hash-writes : (key leaves H' before after : List ℕ) → HashWrites key leaves H' before after 0 → after ≡ hash_bytes A key leaves H'
    pub batch-writes : (key leaves x χ before after : List ℕ) → BatchWrites key leaves x χ before after 0 → after ≡ batch_bytes A key leaves x χ
    pub prove-writes : (key leaves x H' χ before after : List ℕ) → ProveWrites key leaves x H' χ before after 0 → after ≡ proof_of A key leaves x H' χ

  -- "a witness of right form is refused exactly when some equation fails": by the number 11, with the first that does
  pub record RefusedWhenFails : Type 0 where
    pub test-fails : (key x : List ℕ) (r : ℕ) → test_form g key x ≡ true → TestTold key x r → RefusedByEleven key x r
    pub commit-fails : (key leaves x before after : List ℕ) (r : ℕ) → commit_form g key leaves x before ≡ true → CommitWrites key leaves x before after r → RefusedByEleven key x r
    pub batch-fails : (key leaves x χ before after : List ℕ) (r : ℕ) → batch_form g key leaves x χ before ≡ true → BatchWrites key leaves x χ before after r → RefusedByEleven key x r
    pub prove-fails : (key leaves x H' χ before after : List ℕ) (r : ℕ) → prove_form g key leaves x H' χ before ≡ true → ProveWrites key leaves x H' χ before after r → RefusedByEleven key x r

  -- "Given well-formed input, the verifier accepts exactly when the published checks hold in every repetition."
  abbrev pub VerifierAcceptsExactly : Type 0
  VerifierAcceptsExactly = (key Δ H' χ opened proof : List ℕ) (r : ℕ) → verify_form g key Δ H' χ opened proof ≡ true → VerifyTold key Δ H' χ opened proof r
      → (r ≡ 0) ↔ ((e : ℕ) → e < (shape_of key).τ → (consistent_in A (shape_of key) Δ H' opened proof e ≡ true) × (product_in A (shape_of key) key Δ χ opened proof e ≡ true))

  -- "So an honest proof is accepted at every challenge": what mq_prove wrote, mq_verify accepts at every Δ, with the
  -- leaves opened there.
  abbrev pub WrittenIsAccepted : Type 0
  WrittenIsAccepted = (key leaves x H' χ before after Δ : List ℕ) (r : ℕ) → ProveWrites key leaves x H' χ before after 0 → length Δ ≡ (shape_of key).τ → elements_in A Δ ≡ true
      → VerifyTold key Δ H' χ (opening A (shape_of key) leaves Δ) after r → r ≡ 0

  -- What the three steps wrote of one key, leaves and witness, one after the other, is what mq_prove writes: a proof,
  -- which mq_verify accepts at every Δ.
  abbrev pub StepsMakeWhole : Type 0
  StepsMakeWhole = (key leaves x H' χ b₁ a₁ b₂ a₂ b₃ a₃ : List ℕ) → CommitWrites key leaves x b₁ a₁ 0 → HashWrites key leaves H' b₂ a₂ 0 → BatchWrites key leaves x χ b₃ a₃ 0
      → a₁ ++ (a₂ ++ a₃) ≡ proof_of A key leaves x H' χ

  abbrev pub StepsAreAccepted : Type 0
  StepsAreAccepted = (key leaves x H' χ b₁ a₁ b₂ a₂ b₃ a₃ Δ : List ℕ) (r : ℕ) → CommitWrites key leaves x b₁ a₁ 0 → HashWrites key leaves H' b₂ a₂ 0 → BatchWrites key leaves x χ b₃ a₃ 0
      → length Δ ≡ (shape_of key).τ → elements_in A Δ ≡ true → VerifyTold key Δ H' χ (opening A (shape_of key) leaves Δ) (a₁ ++ (a₂ ++ a₃)) r → r ≡ 0

  -- What mq_prove wrote reads back: the finder finds its six sections, one after the other, each from where the one
  -- before ended, and the last ends where it ends.
  abbrev pub ReadsBack : Type 0
  ReadsBack = (key leaves x H' χ before after : List ℕ) → ProveWrites key leaves x H' χ before after 0
      → let p = sections_of A (shape_of key) leaves key x H' χ in Reads after 0 (lengths A (shape_of key)) (p.C ∷ p.d ∷ p.ũ ∷ p.Ṽ ∷ p.QS0 ∷ p.QS1 ∷ [])

  -- Request 3: "16, degree neither 8 nor 4, first of all questions", whatever else is lent.
  pub record UnservedRefused : Type 0 where
    pub test_unserved : (key x : List ℕ) (r : ℕ) → served g ≡ false → TestTold key x r → r ≡ 16 * 65536
    pub commit_unserved : (key leaves x before after : List ℕ) (r : ℕ) → served g ≡ false → CommitWrites key leaves x before after r → r ≡ 16 * 65536
    pub hash_unserved : (key leaves H' before after : List ℕ) (r : ℕ) → served g ≡ false → HashWrites key leaves H' before after r → r ≡ 16 * 65536
    pub batch_unserved : (key leaves x χ before after : List ℕ) (r : ℕ) → served g ≡ false → BatchWrites key leaves x χ before after r → r ≡ 16 * 65536
    pub prove_unserved : (key leaves x H' χ before after : List ℕ) (r : ℕ) → served g ≡ false → ProveWrites key leaves x H' χ before after r → r ≡ 16 * 65536
    pub verify_unserved : (key Δ H' χ opened proof : List ℕ) (r : ℕ) → served g ≡ false → VerifyTold key Δ H' χ opened proof r → r ≡ 16 * 65536

  -- Request 12: with no equations "11 never occurs". Hash and verify do not ask it of any key.
  pub record NoEleven : Type 0 where
    pub test-eleven : (key x : List ℕ) (i : ℕ) → (shape_of key).m ≡ 0 → i < 65536 → TestTold key x (11 * 65536 + i) → ⊥
    pub commit-eleven : (key leaves x before after : List ℕ) (i : ℕ) → (shape_of key).m ≡ 0 → i < 65536 → CommitWrites key leaves x before after (11 * 65536 + i) → ⊥
    pub batch-eleven : (key leaves x χ before after : List ℕ) (i : ℕ) → (shape_of key).m ≡ 0 → i < 65536 → BatchWrites key leaves x χ before after (11 * 65536 + i) → ⊥
    pub prove-eleven : (key leaves x H' χ before after : List ℕ) (i : ℕ) → (shape_of key).m ≡ 0 → i < 65536 → ProveWrites key leaves x H' χ before after (11 * 65536 + i) → ⊥
