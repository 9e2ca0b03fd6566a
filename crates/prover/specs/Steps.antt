-- The three steps: what each is given, and what it wrote for any leaves that were loaded.
-- In each definition A is the alphabet.
--   commit_frame s leaves x, hash_frame, batch_frame == the bytes of a step, for a key of the sizes s
--   rest_frame, proof_frame == those of the steps after the first, and of a whole proof
--   CommitReady, HashReady, BatchReady == the output has the step's exact length, and what is lent beside it has its
--     form
--   CommitWritten, HashWritten, BatchWritten == the output is the step's bytes
--   RestReady, RestWritten == of the steps after the first, in a whole proof
--   MasksReady, FormsReady == two rows of lanes, to which the masks and the batched forms are added, and what that
--     needs
-- Assumes nothing.
use Rattle.std.specs.Prelude.{◌≡◌, true, List, [], ◌∷◌, ℕ, ◌+◌, ◌*◌, ◌-◌, ◌≤◌, ◌<◌, length}
use Rattle.protocol.specs.Strings.{bytes_for}
use Rattle.protocol.specs.Frames.{frame}
use Rattle.protocol.specs.Alphabet.{Alphabet}
use Rattle.protocol.specs.Shape.{Shape, most_variables, limits, w_of}
use Rattle.protocol.specs.Sections.{bytes_of}
use Rattle.protocol.specs.Prover.{c_section, d_section, ũSection, ṼSection, qs0_section, qs1_section, sections_of}
use Rattle.lanes.specs.Lanes.{lanes}
use Rattle.forms_columns.specs.Stacks.{VectorsRoom, coordinate_of}
use Rattle.forms_batching.specs.Batched.{CellsRoom}
use Rattle.forms.specs.Batch.{TableNarrow}
use Rattle.forms_batching.specs.Lines.{VectorsEnd}
use Rattle.questions.specs.Facts.{KeyFacts, WitnessForm, HashForm}
use Rattle.prover.specs.Loaded.{Buffers, Loaded}

module _ (A : Alphabet) (s : Shape) where
  abbrev pub commit_frame : (leaves x : List ℕ) → List ℕ
  commit_frame leaves x = frame (c_section A s leaves ∷ d_section A s leaves x ∷ [])

  abbrev pub hash_frame : (leaves H' : List ℕ) → List ℕ
  hash_frame leaves H' = frame (ũSection A s leaves H' ∷ ṼSection A s leaves H' ∷ [])

  abbrev pub batch_frame : (leaves key x χ : List ℕ) → List ℕ
  batch_frame leaves key x χ = frame (qs0_section A s leaves key χ ∷ qs1_section A s leaves key x χ ∷ [])

  abbrev pub rest_frame : (leaves key x H' χ : List ℕ) → List ℕ
  rest_frame leaves key x H' χ = frame (ũSection A s leaves H' ∷ ṼSection A s leaves H' ∷ qs0_section A s leaves key χ ∷ qs1_section A s leaves key x χ ∷ [])

  abbrev pub proof_frame : (leaves key x H' χ : List ℕ) → List ℕ
  proof_frame leaves key x H' χ = bytes_of (sections_of A s leaves key x H' χ)

  pub record CommitReady (x sums out : List ℕ) : Type 0 where
    pub in-range : limits s ≡ true
    pub witness-length : length x ≡ bytes_for s.n
    pub sums-room : s.τ * w_of A s ≤ length sums
    pub out-length : length out ≡ 8 + (s.τ - 1) * w_of A s + bytes_for s.n

  abbrev pub CommitWritten : (x sums out : List ℕ) → Type 0
  CommitWritten x sums out = (leaves table : List ℕ) → Loaded A s leaves table sums → out ≡ commit_frame leaves x

  pub record HashReady (H' table sums out : List ℕ) : Type 0 where
    pub in-range : limits s ≡ true
    pub hash-form : HashForm A s H'
    pub buffers : Buffers A s table sums
    pub out-length : length out ≡ 8 + bytes_for s.t + s.τ * s.t

  abbrev pub HashWritten : (H' table sums out : List ℕ) → Type 0
  HashWritten H' table sums out = (leaves : List ℕ) → Loaded A s leaves table sums → out ≡ hash_frame leaves H'

  pub record BatchReady (key x χ space sums out : List ℕ) : Type 0 where
    pub key-facts : KeyFacts A s key
    pub witness-form : WitnessForm A s x
    pub batching_length : length χ ≡ s.τ * s.m
    pub buffers : Buffers A s space sums
    pub cells_room : CellsRoom space
    pub narrow : TableNarrow A s space
    pub out-length : length out ≡ 8 + s.τ + s.τ

  abbrev pub BatchWritten : (key x χ table sums out : List ℕ) → Type 0
  BatchWritten key x χ table sums out = (leaves : List ℕ) → Loaded A s leaves table sums → out ≡ batch_frame leaves key x χ

  pub record MasksReady (table sums qs0 qs1 : List ℕ) : Type 0 where
    pub in-range : limits s ≡ true
    pub buffers : Buffers A s table sums
    pub qs0-lanes : length qs0 ≡ lanes
    pub qs1-lanes : length qs1 ≡ lanes

  pub record FormsReady (key x χ vs qs0 qs1 cells : List ℕ) : Type 0 where
    pub key-facts : KeyFacts A s key
    pub witness-form : WitnessForm A s x
    pub batching_length : length χ ≡ s.τ * s.m
    pub vectors_room : VectorsRoom vs
    pub vectors-end : VectorsEnd s.n s.τ vs
    pub vectors_narrow : (e c : ℕ) → e < s.τ → c < most_variables → coordinate_of vs e c < A.K.base.size
    pub cells_room : CellsRoom cells
    pub qs0-lanes : length qs0 ≡ lanes
    pub qs1-lanes : length qs1 ≡ lanes

  pub record RestReady (key x H' χ space sums out : List ℕ) : Type 0 where
    pub key-facts : KeyFacts A s key
    pub hash-form : HashForm A s H'
    pub witness-form : WitnessForm A s x
    pub batching_length : length χ ≡ s.τ * s.m
    pub buffers : Buffers A s space sums
    pub cells_room : CellsRoom space
    pub narrow : TableNarrow A s space
    pub out-length : length out ≡ 16 + bytes_for s.t + s.τ * s.t + s.τ + s.τ

  abbrev pub RestWritten : (key x H' χ table sums out : List ℕ) → Type 0
  RestWritten key x H' χ table sums out = (leaves : List ℕ) → Loaded A s leaves table sums → out ≡ rest_frame leaves key x H' χ
