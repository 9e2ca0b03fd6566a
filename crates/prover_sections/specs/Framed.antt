-- The sections C, d, ũ and Ṽ after their counts: what a writer of each is given, and what it wrote for any leaves that
-- were loaded.
-- In each definition A is the alphabet.
--   CReady, DReady, UReady, VReady == the output has the section's exact length, and what is lent beside it has its
--     form
--   CWritten, DWritten, UWritten, VWritten == the output is the section after its count
-- Assumes nothing.
use Rattle.std.specs.Prelude.{◌≡◌, true, List, [], ◌∷◌, ℕ, ◌+◌, ◌*◌, ◌-◌, ◌≤◌, length}
use Rattle.protocol.specs.Strings.{bytes_for}
use Rattle.protocol.specs.Frames.{frame}
use Rattle.protocol.specs.Alphabet.{Alphabet}
use Rattle.protocol.specs.Shape.{Shape, limits, per_tree, w_of}
use Rattle.protocol.specs.Prover.{c_section, d_section, ũSection, ṼSection}
use Rattle.lanes.specs.Lanes.{lanes}
use Rattle.tables.specs.Sums.{SumsAre, TableIs}
use Rattle.questions.specs.Facts.{LeavesForm, HashForm}

module _ (A : Alphabet) (s : Shape) where
  abbrev pub CReady : (sums out : List ℕ) → Type 0
  CReady sums out = (limits s ≡ true) × (s.τ * w_of A s ≤ length sums) × (length out ≡ 4 + (s.τ - 1) * w_of A s)

  abbrev pub CWritten : (sums out : List ℕ) → Type 0
  CWritten sums out = (leaves : List ℕ) → LeavesForm A s leaves → SumsAre sums leaves s.τ (w_of A s) (per_tree A) → out ≡ frame (c_section A s leaves ∷ [])

  abbrev pub DReady : (x sums out : List ℕ) → Type 0
  DReady x sums out = (limits s ≡ true) × (s.τ * w_of A s ≤ length sums) × (length x ≡ bytes_for s.n) × (length out ≡ 4 + bytes_for s.n)

  abbrev pub DWritten : (x sums out : List ℕ) → Type 0
  DWritten x sums out = (leaves : List ℕ) → SumsAre sums leaves s.τ (w_of A s) (per_tree A) → out ≡ frame (d_section A s leaves x ∷ [])

  abbrev pub UReady : (H' sums out : List ℕ) → Type 0
  UReady H' sums out = (limits s ≡ true) × (s.τ * w_of A s ≤ length sums) × HashForm A s H' × (length out ≡ 4 + bytes_for s.t)

  abbrev pub UWritten : (H' sums out : List ℕ) → Type 0
  UWritten H' sums out = (leaves : List ℕ) → SumsAre sums leaves s.τ (w_of A s) (per_tree A) → out ≡ frame (ũSection A s leaves H' ∷ [])

  abbrev pub VReady : (H' table out : List ℕ) → Type 0
  VReady H' table out = (limits s ≡ true) × (8 * w_of A s * lanes ≤ length table) × HashForm A s H' × (length out ≡ 4 + s.τ * s.t)

  abbrev pub VWritten : (H' table out : List ℕ) → Type 0
  VWritten H' table out = (leaves : List ℕ) → TableIs table leaves s.τ (w_of A s) (per_tree A) → out ≡ frame (ṼSection A s leaves H' ∷ [])
