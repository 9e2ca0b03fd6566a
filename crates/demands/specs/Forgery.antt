-- Demand 3 of mq_verify: whatever a stranger hands us, how many challenge strings the call accepts. It is proved of
-- every function that keeps mq_verify's promise on strings of bytes; full leaves are bytes too.
--   Answers key H' χ proof call == call Δ opened is a number that mq_verify may answer, for every Δ and every string of
--     opened leaves, of bytes as C lends them
--   accepts key leaves call Δ == the call answers 0 at the challenge string Δ, with the leaves opened there
--   accepted_by key leaves call == how many of the challenge strings it accepts, of τ elements of the field of the
--     setting g
-- Assumes nothing.
use Rattle.std.specs.Prelude.{◌≡◌, Bool, true, false, List, map, ℕ, ◌*◌, ◌^◌, ◌<◌, eqb, length}
use Rattle.algebra.specs.Count.{count, product}
use Rattle.algebra.specs.Strings.{strings}
use Rattle.protocol.specs.Strings.{bytes}
use Rattle.protocol.specs.Alphabet.{Alphabet, elements_in}
use Rattle.protocol.specs.Setting.{Setting, alphabet_of, size_of}
use Rattle.protocol.specs.Shape.{shape_of}
use Rattle.protocol.specs.Calls.{well_formed}
use Rattle.protocol.specs.Counting.{opening, factor}
use Rattle.theorems.specs.Demands.{EveryChallengeOnce, ChallengesInAll, EachFactor, FullSpellsCandidate, CandidateWitness, ThatSum, ColumnsIfFailing, ColumnsIfSolving, EveryColumnOnce, ColumnsInAll}
use Rattle.demands.specs.Demands.{VerifyTold}

module _ (g : Setting) where
  abbrev pub A : Alphabet
  A = alphabet_of g

  abbrev pub Answers : List ℕ → List ℕ → List ℕ → List ℕ → (List ℕ → List ℕ → ℕ) → Type 0
  Answers key H' χ proof call = (Δ opened : List ℕ) → bytes Δ → bytes opened → VerifyTold g key Δ H' χ opened proof (call Δ opened)

  abbrev pub accepts : List ℕ → List ℕ → (List ℕ → List ℕ → ℕ) → List ℕ → Bool
  accepts key leaves call Δ = eqb (call Δ (opening A (shape_of key) leaves Δ)) 0

  abbrev pub accepted_by : List ℕ → List ℕ → (List ℕ → List ℕ → ℕ) → ℕ
  accepted_by key leaves call = count (λ z. accepts key leaves call (map A.K.byte z)) (strings A.K.base (shape_of key).τ)

  -- "Whatever well-formed key, full set of leaves, hash matrix, batching bytes and proof a stranger hands us": the
  -- client's sentences, in order. Those that speak of no call are protocol's, under the same words in its Demands.
  pub record ForgeryBound (key leaves H' χ proof : List ℕ) (call : List ℕ → List ℕ → ℕ) : Type 0 where
    -- "the count of challenge strings that the verifier accepts, the leaves opened anew for each, equals the product of
    -- one factor per repetition"
    pub count_is_product : accepted_by key leaves call ≡ product (shape_of key).τ (factor A key leaves H' χ proof)
    -- Counted are the strings of elements, each once; another string of τ bytes is refused 17.
    pub other-bytes-refused : (Δ opened : List ℕ) → bytes Δ → bytes opened → length Δ ≡ (shape_of key).τ → elements_in A Δ ≡ false → call Δ opened ≡ 17 * 65536
    pub every_challenge_once : EveryChallengeOnce g key leaves H' χ proof
    pub challenges_in_all : ChallengesInAll g key leaves H' χ proof
    -- "Each factor is 0, 1, 2 or 256."
    pub each-factor : EachFactor g key leaves H' χ proof
    -- "If the count exceeds 2 to the number of repetitions, some factor is 256;
    pub large_count_needs_full : 2 ^ (shape_of key).τ < accepted_by key leaves call → (e : ℕ) × (e < (shape_of key).τ) × (factor A key leaves H' χ proof e ≡ size_of g)
    -- and wherever one is, the leaves and corrections spell for that repetition a candidate witness whose equation
    -- errors, each times its batching byte, sum to zero."
    pub full-spells-candidate : FullSpellsCandidate g key leaves H' χ proof
    pub candidate_is_witness : CandidateWitness g key leaves H' χ proof
    pub that_sum : ThatSum g key leaves H' χ proof
    -- "exactly 256 to the power m−1 of all batching columns for m equations make that sum zero if it fails any
    -- equation, and all of them if it fails none."
    pub columns_if_failing : ColumnsIfFailing g key leaves H' χ proof
    pub columns_if_solving : ColumnsIfSolving g key leaves H' χ proof
    pub every_column_once : EveryColumnOnce g key leaves H' χ proof
    pub columns_in_all : ColumnsInAll g key leaves H' χ proof

  abbrev pub VerifierBound : Type 0
  VerifierBound = (key leaves H' χ proof : List ℕ) (call : List ℕ → List ℕ → ℕ) → well_formed g key leaves H' χ proof ≡ true → bytes leaves
      → Answers key H' χ proof call → ForgeryBound key leaves H' χ proof call
