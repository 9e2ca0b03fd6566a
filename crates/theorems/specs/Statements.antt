-- What is proved of the definitions: of the equations for any alphabet that is lawful, and of the calls in every
-- setting.
-- `Demands` gives the client's sentences.
-- Assumes nothing.
use Rattle.std.specs.Prelude.{◌≡◌, ◌≢◌, ◌⊎◌, ◌↔◌, Bool, true, false, List, ◌∷◌, ◌++◌, ℕ, ◌-◌, ◌^◌, ◌≤◌, ◌<◌, get_or, length}
use Rattle.algebra.specs.Coded.{Coded}
use Rattle.algebra.specs.Count.{product}
use Rattle.algebra.specs.Roots.{Trivial}
use Rattle.algebra.specs.Columns.{zero_columns}
use Rattle.protocol.specs.Frames.{framed}
use Rattle.protocol.specs.Alphabet.{Alphabet, sym, Lawful}
use Rattle.protocol.specs.Binary.{binary}
use Rattle.protocol.specs.Quaternary.{fours256}
use Rattle.protocol.specs.Setting.{Setting, alphabet_of}
use Rattle.protocol.specs.Shape.{Shape, shape_of, limits, per_tree, per_opened, w_of}
use Rattle.protocol.specs.Sections.{Sections, lengths, sections_in}
use Rattle.protocol.specs.Leaves.{leaf_at, open_tree, opened_leaf}
use Rattle.protocol.specs.Forms.{quad, lin, y_of, middle, error}
use Rattle.protocol.specs.Prover.{u, v, a₀, a₁, commit_bytes, hash_bytes, batch_bytes, proof_of, sections_of}
use Rattle.protocol.specs.Verifier.{W, correction_at, candidate, batched_error}
use Rattle.protocol.specs.Answers.{Answer, accepted, refused, Question, ask, all_yes, word, Published}
use Rattle.protocol.specs.Questions.{fails, witness_form, tree_of, leaves_exact, leaves_spare, consistent_in, product_in}
use Rattle.protocol.specs.Calls.{test_answer, commit_answer, hash_answer, batch_answer, prove_answer, verify_answer, test_form, commit_form, batch_form, prove_form, honest_form, verify_form, well_formed}
use Rattle.protocol.specs.Counting.{opening, candidate_bytes, accepted_count, checks_at, factor}
use Rattle.protocol.specs.Coefficients.{conditions}

-- A refusal is that of a question which gets a no after all before it got a yes.
abbrev pub FirstNo : List Question → ℕ → ℕ → Type 0
FirstNo qs i p = (before : List Question) × (x : Question) × (after : List Question)
    × (qs ≡ before ++ (x ∷ after)) × (all_yes before ≡ true) × (x.yes? ≡ false) × (x.number ≡ i) × (x.place ≡ p)

abbrev pub AskRefuses : Type 0
AskRefuses = (qs : List Question) (i p : ℕ) → ask qs ≡ refused i p → FirstNo qs i p

abbrev pub AskFirstNo : Type 0
AskFirstNo = (before : List Question) (x : Question) (after : List Question) → all_yes before ≡ true → x.yes? ≡ false → ask (before ++ (x ∷ after)) ≡ refused x.number x.place

abbrev pub AskAccepts : Type 0
AskAccepts = (qs : List Question) → (ask qs ≡ accepted) ↔ (all_yes qs ≡ true)

-- the word of a published answer tells the answer
abbrev pub WordInjective : Type 0
WordInjective = (s : Shape) → s.m ≤ 65536 → s.τ ≤ 65536 → (a b : Answer) → Published s a → Published s b → word a ≡ word b → a ≡ b

-- i is the first index below n at which `holds` is false
abbrev pub FirstFailing : ℕ → (ℕ → Bool) → ℕ → Type 0
FirstFailing n holds i = (i < n) × (holds i ≡ false) × ((j : ℕ) → j < i → holds j ≡ true)

module _ (A : Alphabet) where
  open A use {K}
  open K use {base, elem, byte}
  open base use {R, size}
  open R use {F, 𝟘, add as ◌⊕◌, mul as ◌⊗◌}

  infixl 65 ◌⊕◌
  infixl 70 ◌⊗◌
  -- some equation fails
  abbrev pub SomeFails : List ℕ → List ℕ → Type 0
  SomeFails key x = (i : ℕ) × fails A (shape_of key) key x i

  -- i is the lowest-numbered equation that fails
  abbrev pub FirstFails : List ℕ → List ℕ → ℕ → Type 0
  FirstFails key x i = fails A (shape_of key) key x i × ((j : ℕ) → j < i → error A (shape_of key) key j (sym A x) ≡ 𝟘)

  -- All else being well formed, a witness of the right form is refused exactly when some equation fails, and then by
  -- the number 11, with the first that does.
  abbrev pub RefusedIff : List ℕ → List ℕ → Answer → Type 0
  RefusedIff key x a = ((a ≢ accepted) ↔ SomeFails key x) × (a ≢ accepted → (i : ℕ) × FirstFails key x i × (a ≡ refused 11 i))

  -- The two descriptions of opened leaves agree, and what is opened has the right form.
  abbrev pub OpenedByPlace : Type 0
  OpenedByPlace = (s : Shape) (leaves Δ : List ℕ) → leaves_exact A s (per_tree A) leaves ≡ true → ((e : ℕ) → e < s.τ → get_or Δ e 0 < size)
      → (e j : ℕ) → e < s.τ → j < per_tree A → j ≢ get_or Δ e 0 → opened_leaf (w_of A s) (get_or Δ e 0) (tree_of A s (opening A s leaves Δ) e) j ≡ leaf_at (per_tree A) (w_of A s) leaves e j

  abbrev pub OpenedForm : Type 0
  OpenedForm = (s : Shape) (leaves Δ : List ℕ) → leaves_exact A s (per_tree A) leaves ≡ true → leaves_spare A s (per_tree A) leaves ≡ true → ((e : ℕ) → e < s.τ → get_or Δ e 0 < size)
      → (leaves_exact A s (per_opened A) (opening A s leaves Δ) ≡ true) × (leaves_spare A s (per_opened A) (opening A s leaves Δ) ≡ true)

  -- The VOLE identity, for any leaves of exact length and any corrections.
  abbrev pub VoleIdentity : Type 0
  VoleIdentity = (s : Shape) (leaves : List ℕ) → leaves_exact A s (per_tree A) leaves ≡ true → (p : Sections) (e δ c : ℕ) → e < s.τ → δ < size
      → W A s p e δ (open_tree (per_tree A) (w_of A s) leaves e δ) c ≡ v A s leaves e c ⊕ elem δ ⊗ (u A s leaves e c ⊕ correction_at A s p e c)

  -- An equation at f + X·g, as a polynomial in X: at v_e + X·x its coefficients are a₀, a₁ and the error, 0 for a
  -- solution.
  abbrev pub Expansion : Type 0
  Expansion = (s : Shape) (key : List ℕ) (i : ℕ) (f g : ℕ → F) (X : F)
      → quad A s key i (λ c. f c ⊕ X ⊗ g c) (λ c. f c ⊕ X ⊗ g c) ⊕ X ⊗ lin A s key i (λ c. f c ⊕ X ⊗ g c) ⊕ y_of A s key i ⊗ (X ⊗ X)
      ≡ quad A s key i f f ⊕ middle A s key i f g ⊗ X ⊕ error A s key i g ⊗ (X ⊗ X)

  abbrev pub ProverExpansion : Type 0
  ProverExpansion = (s : Shape) (leaves key x : List ℕ) (e i : ℕ) (X : F) → (f : ℕ → F) → f ≡ (λ c. v A s leaves e c ⊕ X ⊗ sym A x c)
      → quad A s key i f f ⊕ X ⊗ lin A s key i f ⊕ y_of A s key i ⊗ (X ⊗ X) ≡ a₀ A s leaves key e i ⊕ a₁ A s leaves key x e i ⊗ X ⊕ error A s key i (sym A x) ⊗ (X ⊗ X)

  -- The steps' bytes, one after the other, are the whole proof's;
  -- and a proof reads back as its six sections, with nothing after them.
  abbrev pub StepsAreWhole : Type 0
  StepsAreWhole = (key leaves x H' χ : List ℕ) → commit_bytes A key leaves x ++ (hash_bytes A key leaves H' ++ batch_bytes A key leaves x χ) ≡ proof_of A key leaves x H' χ

  abbrev pub ProofReadsBack : Type 0
  ProofReadsBack = (key leaves x H' χ : List ℕ) → limits (shape_of key) ≡ true
      → (framed (lengths A (shape_of key)) (proof_of A key leaves x H' χ) ≡ true) × (sections_in A (shape_of key) (proof_of A key leaves x H' χ) ≡ sections_of A (shape_of key) leaves key x H' χ)

  module _ (key leaves proof : List ℕ) where
    abbrev pub candidate_of : ℕ → ℕ → F
    candidate_of = candidate A (shape_of key) leaves (sections_in A (shape_of key) proof)

    abbrev pub error_of : ℕ → ℕ → F
    error_of e i = error A (shape_of key) key i (candidate_of e)

    -- A candidate is the coordinates of a witness of the right form, and its errors are that witness's.
    abbrev pub CandidateIsWitness : Type 0
    CandidateIsWitness = (e : ℕ) → (witness_form A (shape_of key) (candidate_bytes A key leaves proof e) ≡ true)
        × ((i : ℕ) → error A (shape_of key) key i (sym A (candidate_bytes A key leaves proof e)) ≡ error_of e i)

    -- The columns that hide a failing candidate, and those that hide one that fails nothing: of anything, well-formed
    -- or not.
    pub record HidingColumns : Type 0 where
      pub failing : (e i : ℕ) → i < (shape_of key).m → error_of e i ≢ 𝟘 → zero_columns base (shape_of key).m (error_of e) ≡ size ^ ((shape_of key).m - 1)
      pub solving : (e : ℕ) → ((i : ℕ) → i < (shape_of key).m → error_of e i ≡ 𝟘) → zero_columns base (shape_of key).m (error_of e) ≡ size ^ (shape_of key).m

  -- Of an honest proof both checks hold in every repetition, at every challenge.
  abbrev pub HonestChecks : Type 0
  HonestChecks = (key leaves x H' χ : List ℕ) → leaves_exact A (shape_of key) (per_tree A) leaves ≡ true → ((i : ℕ) → i < (shape_of key).m → error A (shape_of key) key i (sym A x) ≡ 𝟘)
      → (e : ℕ) → e < (shape_of key).τ → (y : F) → checks_at A key leaves H' χ (shape_of key) (sections_in A (shape_of key) (proof_of A key leaves x H' χ)) e (byte y) ≡ true

  module _ (key leaves H' χ proof : List ℕ) where
    abbrev pub factor_of : ℕ → ℕ
    factor_of e = factor A key leaves H' χ proof e

    -- The factors, of leaves of exact length.
    pub record Factors : Type 0 where
      pub four-cases : (e : ℕ) → e < (shape_of key).τ → (factor_of e ≡ 0) ⊎ ((factor_of e ≡ 1) ⊎ ((factor_of e ≡ 2) ⊎ (factor_of e ≡ size)))
      pub full_exactly : (e : ℕ) → e < (shape_of key).τ → (factor_of e ≡ size) ↔ Trivial base (conditions A (shape_of key) key leaves H' χ (sections_in A (shape_of key) proof) e)
      pub full-error : (e : ℕ) → e < (shape_of key).τ → factor_of e ≡ size → batched_error A (shape_of key) key χ leaves (sections_in A (shape_of key) proof) e ≡ 𝟘

  -- All of these.
  pub record HoldsOver : Type 0 where
    pub opened-by-place : OpenedByPlace
    pub opened-form : OpenedForm
    pub vole_identity : VoleIdentity
    pub expansion : Expansion
    pub prover_expansion : ProverExpansion
    pub steps_are_whole : StepsAreWhole
    pub proof_reads_back : ProofReadsBack
    pub candidate_is_witness : (key leaves proof : List ℕ) → CandidateIsWitness key leaves proof
    pub hiding_columns : (key leaves proof : List ℕ) → HidingColumns key leaves proof
    pub honest-checks : HonestChecks
    pub factors : (key leaves H' χ proof : List ℕ) → leaves_exact A (shape_of key) (per_tree A) leaves ≡ true → Factors key leaves H' χ proof

-- They hold over any lawful alphabet, and so over both that there are: bits, over every field, and the four symbols of
-- request 11.
pub record EveryAlphabet : Type 1 where
  pub lawful : (A : Alphabet) → Lawful A → HoldsOver A
  pub bits : (K : Coded) → HoldsOver (binary K)
  pub fours : HoldsOver fours256

-- Of the calls, in every setting.
module _ (g : Setting) where
  abbrev pub A : Alphabet
  A = alphabet_of g

  open A use {K}
  open K use {base}
  open base use {R, size}
  open R use {F, 𝟘}

  -- Every answer of every call is in the published list.
  pub record AllPublished : Type 0 where
    pub test_published : (key x : List ℕ) → Published (shape_of key) (test_answer g key x)
    pub commit_published : (key leaves x out : List ℕ) → Published (shape_of key) (commit_answer g key leaves x out)
    pub hash_published : (key leaves H' out : List ℕ) → Published (shape_of key) (hash_answer g key leaves H' out)
    pub batch_published : (key leaves x χ out : List ℕ) → Published (shape_of key) (batch_answer g key leaves x χ out)
    pub prove_published : (key leaves x H' χ out : List ℕ) → Published (shape_of key) (prove_answer g key leaves x H' χ out)
    pub verify_published : (key Δ H' χ opened proof : List ℕ) → Published (shape_of key) (verify_answer g key Δ H' χ opened proof)

  pub record RefusesExactly : Type 0 where
    pub test_refuses : (key x : List ℕ) → test_form g key x ≡ true → RefusedIff A key x (test_answer g key x)
    pub commit_refuses : (key leaves x out : List ℕ) → commit_form g key leaves x out ≡ true → RefusedIff A key x (commit_answer g key leaves x out)
    pub batch_refuses : (key leaves x χ out : List ℕ) → batch_form g key leaves x χ out ≡ true → RefusedIff A key x (batch_answer g key leaves x χ out)
    pub prove_refuses : (key leaves x H' χ out : List ℕ) → prove_form g key leaves x H' χ out ≡ true → RefusedIff A key x (prove_answer g key leaves x H' χ out)

  -- An honest proof is accepted at every challenge.
  abbrev pub HonestAccepted : Type 0
  HonestAccepted = (key leaves x H' χ Δ : List ℕ) → honest_form g key leaves x H' χ ≡ true → ((i : ℕ) → i < (shape_of key).m → error A (shape_of key) key i (sym A x) ≡ 𝟘)
      → length Δ ≡ (shape_of key).τ → ((e : ℕ) → e < length Δ → get_or Δ e 0 < size)
      → verify_answer g key Δ H' χ (opening A (shape_of key) leaves Δ) (proof_of A key leaves x H' χ) ≡ accepted

  -- The verifier accepts exactly when both checks hold in every repetition.
  abbrev pub AcceptsExactly : Type 0
  AcceptsExactly = (key Δ H' χ opened proof : List ℕ) → verify_form g key Δ H' χ opened proof ≡ true
      → (verify_answer g key Δ H' χ opened proof ≡ accepted)
      ↔ ((e : ℕ) → e < (shape_of key).τ → (consistent_in A (shape_of key) Δ H' opened proof e ≡ true) × (product_in A (shape_of key) key Δ χ opened proof e ≡ true))

  -- A refusal 11 names the first equation that fails, and a refusal 14 or 15 the first repetition where the check
  -- fails.
  pub record FirstNamed : Type 0 where
    pub test-eleven : (key x : List ℕ) (i : ℕ) → test_answer g key x ≡ refused 11 i → FirstFails A key x i
    pub commit-eleven : (key leaves x out : List ℕ) (i : ℕ) → commit_answer g key leaves x out ≡ refused 11 i → FirstFails A key x i
    pub batch-eleven : (key leaves x χ out : List ℕ) (i : ℕ) → batch_answer g key leaves x χ out ≡ refused 11 i → FirstFails A key x i
    pub prove-eleven : (key leaves x H' χ out : List ℕ) (i : ℕ) → prove_answer g key leaves x H' χ out ≡ refused 11 i → FirstFails A key x i
    pub fourteen : (key Δ H' χ opened proof : List ℕ) (e : ℕ) → verify_answer g key Δ H' χ opened proof ≡ refused 14 e
        → FirstFailing (shape_of key).τ (consistent_in A (shape_of key) Δ H' opened proof) e
    pub fifteen : (key Δ H' χ opened proof : List ℕ) (e : ℕ) → verify_answer g key Δ H' χ opened proof ≡ refused 15 e
        → FirstFailing (shape_of key).τ (product_in A (shape_of key) key Δ χ opened proof) e
        × ((i : ℕ) → i < (shape_of key).τ → consistent_in A (shape_of key) Δ H' opened proof i ≡ true)

  -- What an honest prover is lent and writes is well-formed.
  abbrev pub HonestWellFormed : Type 0
  HonestWellFormed = (key leaves x H' χ : List ℕ) → honest_form g key leaves x H' χ ≡ true → well_formed g key leaves H' χ (proof_of A key leaves x H' χ) ≡ true

  -- The forgery count, of what is well-formed.
  pub record ForgeryCount (key leaves H' χ proof : List ℕ) : Type 0 where
    pub factors : Factors A key leaves H' χ proof
    pub count_is_product : accepted_count g key leaves H' χ proof ≡ product (shape_of key).τ (factor_of A key leaves H' χ proof)
    pub large-count : 2 ^ (shape_of key).τ < accepted_count g key leaves H' χ proof → (e : ℕ) × (e < (shape_of key).τ) × (factor_of A key leaves H' χ proof e ≡ size)
