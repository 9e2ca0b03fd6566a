-- The check program's input and line, of the toy. proofs/CheckLine proves them.
--   input_with k δ p == the input: the key k, Δ = δ, H', χ, the leaves opened at δ and the proof p, each after its count
--   input == the toy's at Δ = 02
--   line_accepted, line15, line14, line_unread == the lines `accepted 0 0`, `refused 15 0`, `refused 14 0`, `unread 0 0`
--   CheckLines == what is printed
-- Assumes nothing.
use Rattle.std.specs.Prelude.{◌≡◌, List, [], ◌∷◌, ◌++◌, ℕ, take}
use Rattle.protocol.specs.Frames.{frame}
use Rattle.protocol.specs.Shape.{shape_of}
use Rattle.protocol.specs.Counting.{opening}
use Rattle.protocol.specs.Check.{eight, check_line}
use Rattle.examples.specs.Toy.{A, key, leaves, H', χ, proof, proof_qs1, proofũ}

unfoldable pub input_with : List ℕ → ℕ → List ℕ → List ℕ
input_with k δ p = frame (k ∷ (δ ∷ []) ∷ H' ∷ χ ∷ opening A (shape_of k) leaves (δ ∷ []) ∷ p ∷ [])

abbrev pub input : List ℕ
input = input_with key 0x02 proof

abbrev pub line_accepted : List ℕ
line_accepted = 97 ∷ 99 ∷ 99 ∷ 101 ∷ 112 ∷ 116 ∷ 101 ∷ 100 ∷ 32 ∷ 48 ∷ 32 ∷ 48 ∷ 10 ∷ []

abbrev pub line15 : List ℕ
line15 = 114 ∷ 101 ∷ 102 ∷ 117 ∷ 115 ∷ 101 ∷ 100 ∷ 32 ∷ 49 ∷ 53 ∷ 32 ∷ 48 ∷ 10 ∷ []

abbrev pub line14 : List ℕ
line14 = 114 ∷ 101 ∷ 102 ∷ 117 ∷ 115 ∷ 101 ∷ 100 ∷ 32 ∷ 49 ∷ 52 ∷ 32 ∷ 48 ∷ 10 ∷ []

abbrev pub line_unread : List ℕ
line_unread = 117 ∷ 110 ∷ 114 ∷ 101 ∷ 97 ∷ 100 ∷ 32 ∷ 48 ∷ 32 ∷ 48 ∷ 10 ∷ []

pub record CheckLines : Type 0 where
  -- "The toy at 02 gives, whole and without a header, `accepted 0 0`."
  pub toy_at_02 : check_line eight input ≡ line_accepted
  pub QS1_changed_at_02 : check_line eight (input_with key 0x02 proof_qs1) ≡ line15
  pub ũ_changed_at_02 : check_line eight (input_with key 0x02 proofũ) ≡ line14
  -- "A cut section or bytes left over give `unread 0 0`."
  pub nothing : check_line eight [] ≡ line_unread
  pub last-byte-cut : check_line eight (take 590 input) ≡ line_unread
  pub one-byte-over : check_line eight (input ++ (0x00 ∷ [])) ≡ line_unread
