-- The client's demands 2 and 3, sentence by sentence, over the names that the calls' contracts cite, in every setting:
-- where 01 says 256, it is the field's size, 256 at degree 8 and 16 at degree 4 (`SizesAre`).
-- proofs/Demands proves each.
-- Well-formed is what 01 says: every question on form gets a yes. `well_formed` and `verify_form` are those questions.
--   size == how many elements the field has;  𝟎 == 00 of it
--   EachOnce n == each string of n bytes that are elements stands exactly once among the strings of n elements
--   InAll n == those strings are size^n
-- Assumes nothing.
use Rattle.std.specs.Prelude.{◌≡◌, ◌≢◌, ◌⊎◌, ◌↔◌, true, false, List, ◌++◌, map, ℕ, ◌-◌, ◌^◌, ◌<◌, eqb, length, get_or}
use Rattle.algebra.specs.Count.{count, same, product}
use Rattle.algebra.specs.Strings.{strings}
use Rattle.algebra.specs.Columns.{column_sum, zero_columns}
use Rattle.protocol.specs.Lists.{table}
use Rattle.protocol.specs.Strings.{bytes}
use Rattle.protocol.specs.Alphabet.{Alphabet, elements_in}
use Rattle.protocol.specs.Setting.{Setting, setting, served, alphabet_of, size_of}
use Rattle.protocol.specs.Shape.{shape_of}
use Rattle.protocol.specs.Sections.{sections_in}
use Rattle.protocol.specs.Forms.{χAt}
use Rattle.protocol.specs.Prover.{commit_bytes, hash_bytes, batch_bytes, proof_of}
use Rattle.protocol.specs.Verifier.{batched_error}
use Rattle.protocol.specs.Answers.{accepted, refused}
use Rattle.protocol.specs.Questions.{solves, consistent_in, product_in}
use Rattle.protocol.specs.Calls.{prove_answer, verify_answer, prove_form, honest_form, verify_form, well_formed}
use Rattle.protocol.specs.Counting.{opening, candidate_bytes, accepted_count, factor}
use Rattle.theorems.specs.Statements.{RefusedIff, error_of, CandidateIsWitness}

-- The degrees that are served, and the sizes of their fields.
pub record SizesAre : Type 0 where
  pub eight : (served (setting 8) ≡ true) × (size_of (setting 8) ≡ 256)
  pub four : (served (setting 4) ≡ true) × (size_of (setting 4) ≡ 16)
  pub no_other : (g : Setting) → served g ≡ true → (g ≡ setting 8) ⊎ (g ≡ setting 4)
  -- at degree 8 every byte is an element: questions 17 and 18 refuse nothing
  pub every_byte : (s : List ℕ) → bytes s → elements_in (alphabet_of (setting 8)) s ≡ true
  -- and at degree 4 none above 15 is
  pub above_15 : (s : List ℕ) (i : ℕ) → 15 < get_or s i 0 → elements_in (alphabet_of (setting 4)) s ≡ false

module _ (g : Setting) where
  abbrev pub A : Alphabet
  A = alphabet_of g

  abbrev pub size : ℕ
  size = size_of g

  abbrev pub 𝟎 : A.K.base.R.F
  𝟎 = A.K.base.R.𝟘

  abbrev pub EachOnce : ℕ → Type 0
  EachOnce n = (s : List ℕ) → length s ≡ n → elements_in A s ≡ true → count (λ z. same eqb (map A.K.byte z) s) (strings A.K.base n) ≡ 1

  abbrev pub InAll : ℕ → Type 0
  InAll n = length (strings A.K.base n) ≡ size ^ n

  -- Demand 2. "The prover's every byte equals what the published protocol's equations give for that key, witness,
  -- leaves and challenges": `proof_of` is these bytes, and the contracts of the calls cite it.
  -- Here: the three steps' bytes, one after the other, are the whole call's.
  abbrev pub StepBytes : Type 0
  StepBytes = (key leaves x H' χ : List ℕ) → commit_bytes A key leaves x ++ (hash_bytes A key leaves H' ++ batch_bytes A key leaves x χ) ≡ proof_of A key leaves x H' χ

  -- "and, all else being well formed, a call given a witness of the right form refuses it exactly when some equation
  -- fails."
  -- `RefusedIff`: and then by the number 11, with the lowest-numbered equation that fails.
  -- The same of the test, of commit and of batch: `RefusesExactly`.
  abbrev pub RefusedExactlyWhen : Type 0
  RefusedExactlyWhen = (key leaves x H' χ out : List ℕ) → prove_form g key leaves x H' χ out ≡ true → RefusedIff A key x (prove_answer g key leaves x H' χ out)

  -- "Given well-formed input, the verifier accepts exactly when the published checks hold in every repetition."
  abbrev pub AcceptsExactlyWhen : Type 0
  AcceptsExactlyWhen = (key Δ H' χ opened proof : List ℕ) → verify_form g key Δ H' χ opened proof ≡ true
      → (verify_answer g key Δ H' χ opened proof ≡ accepted)
      ↔ ((e : ℕ) → e < (shape_of key).τ → (consistent_in A (shape_of key) Δ H' opened proof e ≡ true) × (product_in A (shape_of key) key Δ χ opened proof e ≡ true))

  -- "So an honest proof is accepted at every challenge."
  abbrev pub HonestProofAccepted : Type 0
  HonestProofAccepted = (key leaves x H' χ Δ : List ℕ) → honest_form g key leaves x H' χ ≡ true → solves A (shape_of key) key x ≡ true
      → length Δ ≡ (shape_of key).τ → elements_in A Δ ≡ true → verify_answer g key Δ H' χ (opening A (shape_of key) leaves Δ) (proof_of A key leaves x H' χ) ≡ accepted

  -- Demand 3. "Whatever well-formed key, full set of leaves, hash matrix, batching bytes and proof a stranger hands us,
  module _ (key leaves H' χ proof : List ℕ) where
    -- the count of challenge strings that the verifier accepts, the leaves opened anew for each, equals the product of
    -- one factor per repetition: the number of challenge bytes at which both published checks hold there."
    abbrev pub CountEqualsProduct : Type 0
    CountEqualsProduct = accepted_count g key leaves H' χ proof ≡ product (shape_of key).τ (factor A key leaves H' χ proof)

    -- Counted are all Δ of τ elements: each stands exactly once among the strings that are counted, and they are
    -- size^τ. A Δ of τ bytes that are not all elements, which degree 8 does not have, is refused 17.
    abbrev pub EveryChallengeOnce : Type 0
    EveryChallengeOnce = EachOnce (shape_of key).τ

    abbrev pub ChallengesInAll : Type 0
    ChallengesInAll = InAll (shape_of key).τ

    abbrev pub OtherBytesRefused : Type 0
    OtherBytesRefused = (Δ opened : List ℕ) → length Δ ≡ (shape_of key).τ → elements_in A Δ ≡ false → verify_answer g key Δ H' χ opened proof ≡ refused 17 0

    -- "Each factor is 0, 1, 2 or 256."
    abbrev pub EachFactor : Type 0
    EachFactor = (e : ℕ) → e < (shape_of key).τ
        → (factor A key leaves H' χ proof e ≡ 0) ⊎ ((factor A key leaves H' χ proof e ≡ 1) ⊎ ((factor A key leaves H' χ proof e ≡ 2) ⊎ (factor A key leaves H' χ proof e ≡ size)))

    -- "If the count exceeds 2 to the number of repetitions, some factor is 256;
    abbrev pub LargeCountNeedsFull : Type 0
    LargeCountNeedsFull = 2 ^ (shape_of key).τ < accepted_count g key leaves H' χ proof → (e : ℕ) × (e < (shape_of key).τ) × (factor A key leaves H' χ proof e ≡ size)

    -- and wherever one is, the leaves and corrections spell for that repetition a candidate witness whose equation
    -- errors, each times its batching byte, sum to zero." The candidate need not solve the system: a batching byte that
    -- is zero hides an error.
    abbrev pub FullSpellsCandidate : Type 0
    FullSpellsCandidate = (e : ℕ) → e < (shape_of key).τ → factor A key leaves H' χ proof e ≡ size → batched_error A (shape_of key) key χ leaves (sections_in A (shape_of key) proof) e ≡ 𝟎

    -- "a candidate witness": its bytes are a witness of the right form, at which each equation's error is the
    -- candidate's.
    abbrev pub CandidateWitness : Type 0
    CandidateWitness = CandidateIsWitness A key leaves proof × ((e : ℕ) → bytes (candidate_bytes A key leaves proof e))

    -- "that sum": of the errors, each times the entry of a column, here the column of χ for repetition e.
    abbrev pub ThatSum : Type 0
    ThatSum = (e : ℕ) → batched_error A (shape_of key) key χ leaves (sections_in A (shape_of key) proof) e
        ≡ column_sum A.K.base (shape_of key).m (table (shape_of key).m (χAt A (shape_of key) χ e)) (error_of A key leaves proof e)

    -- "For the candidate of every repetition, whatever its factor, exactly 256 to the power m−1 of all batching columns
    -- for m equations make that sum zero if it fails any equation,
    abbrev pub ColumnsIfFailing : Type 0
    ColumnsIfFailing = (e i : ℕ) → i < (shape_of key).m → error_of A key leaves proof e i ≢ 𝟎
        → zero_columns A.K.base (shape_of key).m (error_of A key leaves proof e) ≡ size ^ ((shape_of key).m - 1)

    -- and all of them if it fails none."
    abbrev pub ColumnsIfSolving : Type 0
    ColumnsIfSolving = (e : ℕ) → ((i : ℕ) → i < (shape_of key).m → error_of A key leaves proof e i ≡ 𝟎)
        → zero_columns A.K.base (shape_of key).m (error_of A key leaves proof e) ≡ size ^ (shape_of key).m

    -- "all batching columns": any m elements of K. Each stands exactly once among the columns that are counted, and
    -- they are size^m.
    abbrev pub EveryColumnOnce : Type 0
    EveryColumnOnce = EachOnce (shape_of key).m

    abbrev pub ColumnsInAll : Type 0
    ColumnsInAll = InAll (shape_of key).m

    -- Five statements are of what is well-formed; the others hold of anything.
    pub record Demand3 : Type 0 where
      pub count_equals_product : well_formed g key leaves H' χ proof ≡ true → CountEqualsProduct
      pub each-factor : well_formed g key leaves H' χ proof ≡ true → EachFactor
      pub large_count_needs_full : well_formed g key leaves H' χ proof ≡ true → LargeCountNeedsFull
      pub full-spells-candidate : well_formed g key leaves H' χ proof ≡ true → FullSpellsCandidate
      pub other-bytes-refused : well_formed g key leaves H' χ proof ≡ true → OtherBytesRefused
      pub every_challenge_once : EveryChallengeOnce
      pub challenges_in_all : ChallengesInAll
      pub candidate_is_witness : CandidateWitness
      pub that_sum : ThatSum
      pub columns_if_failing : ColumnsIfFailing
      pub columns_if_solving : ColumnsIfSolving
      pub every_column_once : EveryColumnOnce
      pub columns_in_all : ColumnsInAll
