-- A proof's six sections, in order: C, d, ũ, Ṽ, QS0, QS1.
--   bytes_of p == the proof's bytes, each section after its count;  lengths A s == the sections' lengths
--   commit_lengths, hash_lengths, batch_lengths == those of the two sections that each step writes
--   sections_in A s proof == the sections of a proof
-- Assumes nothing.
use Rattle.std.specs.Prelude.{List, [], ◌∷◌, ℕ, ◌*◌, ◌-◌}
use Rattle.protocol.specs.Frames.{frame, section_no}
use Rattle.protocol.specs.Alphabet.{Alphabet}
use Rattle.protocol.specs.Shape.{Shape, w_of}

pub record Sections : Type 0 where
  pub C : List ℕ
  pub d : List ℕ
  pub ũ : List ℕ
  pub Ṽ : List ℕ
  pub QS0 : List ℕ
  pub QS1 : List ℕ

unfoldable pub bytes_of : Sections → List ℕ
bytes_of p = frame (p.C ∷ p.d ∷ p.ũ ∷ p.Ṽ ∷ p.QS0 ∷ p.QS1 ∷ [])

module _ (A : Alphabet) (s : Shape) where
  open A use {width}

  unfoldable pub commit_lengths : List ℕ
  commit_lengths = (s.τ - 1) * w_of A s ∷ width s.n ∷ []

  unfoldable pub hash_lengths : List ℕ
  hash_lengths = width s.t ∷ s.τ * s.t ∷ []

  unfoldable pub batch_lengths : List ℕ
  batch_lengths = s.τ ∷ s.τ ∷ []

  unfoldable pub lengths : List ℕ
  lengths = (s.τ - 1) * w_of A s ∷ width s.n ∷ width s.t ∷ s.τ * s.t ∷ s.τ ∷ s.τ ∷ []

  abbrev pub sections_in : List ℕ → Sections
  sections_in proof = record {
    C = section_no lengths 0 proof;
    d = section_no lengths 1 proof;
    ũ = section_no lengths 2 proof;
    Ṽ = section_no lengths 3 proof;
    QS0 = section_no lengths 4 proof;
    QS1 = section_no lengths 5 proof;
  }
