-- What a verifier sees beside the key, which everyone has: "the opened leaves, challenges and proof".
--   View == these strings
--   view_of A key leaves x Δ H' χ == those of an honest prover with full leaves and witness x: all leaves but leaf Δ_e
--     of each repetition e, the three challenges, and the proof that the rules give
-- Assumes nothing.
use Rattle.std.specs.Prelude.{List, ℕ}
use Rattle.protocol.specs.Alphabet.{Alphabet}
use Rattle.protocol.specs.Shape.{shape_of}
use Rattle.protocol.specs.Prover.{proof_of}
use Rattle.protocol.specs.Counting.{opening}

pub record View : Type 0 where
  pub opened : List ℕ
  pub Δ : List ℕ
  pub H' : List ℕ
  pub χ : List ℕ
  pub proof : List ℕ

abbrev pub view_of : Alphabet → List ℕ → List ℕ → List ℕ → List ℕ → List ℕ → List ℕ → View
view_of A key leaves x Δ H' χ = record { opened = opening A (shape_of key) leaves Δ; Δ = Δ; H' = H'; χ = χ; proof = proof_of A key leaves x H' χ }
