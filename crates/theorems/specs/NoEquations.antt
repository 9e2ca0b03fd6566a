-- A key with no equations (request 12): "A, b and y are empty, χ has no bytes, and QS0 and QS1 are the masks alone",
-- "11 never occurs there", "The single empty column counts as one column with sum zero".
-- proofs/NoEquations proves each statement.
--   NoEquations A s == of the equations, at sizes s;  NoElevens g key == no call answers 11
--   NoSquares g key == of a well-formed proof, each factor is 0, 1 or the field's size: nothing is quadratic
--   PracticeKeys g == all three hold of every key with m = 0
-- Assumes nothing.
use Rattle.std.specs.Prelude.{◌≡◌, ◌≢◌, true, List, [], ◌∷◌, ℕ, ◌+◌, ◌<◌}
use Rattle.algebra.specs.Roots.{ZeroOneAll}
use Rattle.algebra.specs.Columns.{column_sum, zero_columns}
use Rattle.protocol.specs.Frames.{framed_length}
use Rattle.protocol.specs.Alphabet.{Alphabet}
use Rattle.protocol.specs.Setting.{Setting, alphabet_of, size_of}
use Rattle.protocol.specs.Shape.{Shape, shape_of}
use Rattle.protocol.specs.Key.{key_lengths}
use Rattle.protocol.specs.Forms.{mask_of}
use Rattle.protocol.specs.Prover.{u, v, qs0, qs1}
use Rattle.protocol.specs.Answers.{refused}
use Rattle.protocol.specs.Questions.{χExact, solves}
use Rattle.protocol.specs.Calls.{test_answer, commit_answer, batch_answer, prove_answer, well_formed}
use Rattle.protocol.specs.Counting.{factor}

module _ (A : Alphabet) (s : Shape) where
  open A use {K}
  open K use {base}
  open base use {R}
  open R use {F, 𝟘}

  pub record NoEquations : Type 0 where
    pub sections-empty : key_lengths A s ≡ 0 ∷ 0 ∷ 0 ∷ []
    -- eight bytes of the header, and three counts
    pub key-length : 8 + framed_length (key_lengths A s) ≡ 20
    pub χ_empty : (χ : List ℕ) → χExact A s χ ≡ true → χ ≡ []
    pub any-solves : (key x : List ℕ) → solves A s key x ≡ true
    pub QS0-mask : (key leaves χ : List ℕ) (e : ℕ) → qs0 A s leaves key χ e ≡ mask_of A s e (v A s leaves e)
    pub QS1-mask : (key leaves x χ : List ℕ) (e : ℕ) → qs1 A s leaves key x χ e ≡ mask_of A s e (u A s leaves 0)
    pub one-column : (f : ℕ → F) → zero_columns base s.m f ≡ 1
    pub its_sum : (f : ℕ → F) → column_sum base s.m [] f ≡ 𝟘

module _ (g : Setting) (key : List ℕ) where
  pub record NoElevens : Type 0 where
    pub test : (x : List ℕ) (i : ℕ) → test_answer g key x ≢ refused 11 i
    pub commit : (leaves x out : List ℕ) (i : ℕ) → commit_answer g key leaves x out ≢ refused 11 i
    pub batch : (leaves x χ out : List ℕ) (i : ℕ) → batch_answer g key leaves x χ out ≢ refused 11 i
    pub prove : (leaves x H' χ out : List ℕ) (i : ℕ) → prove_answer g key leaves x H' χ out ≢ refused 11 i

  abbrev pub NoSquares : Type 0
  NoSquares = (leaves H' χ proof : List ℕ) → well_formed g key leaves H' χ proof ≡ true → (e : ℕ) → e < (shape_of key).τ
      → ZeroOneAll (size_of g) (factor (alphabet_of g) key leaves H' χ proof e)

abbrev pub PracticeKeys : Setting → Type 0
PracticeKeys g = (key : List ℕ) → (shape_of key).m ≡ 0 → NoEquations (alphabet_of g) (shape_of key) × NoElevens g key × NoSquares g key
