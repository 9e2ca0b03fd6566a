-- Where the masks stand: each repetition has its own, one after another, between the first n coordinates and the last
-- t.
-- proofs/MaskPlaces proves each statement.
--   first, next, end == the first begins at n, the next where the one before ends, and the last ends at k
--   alone == where there is one repetition, k is n and one mask. So it was when one mask served every repetition (01):
--     with τ = 1 all lengths, places and bytes at degree 8 are 01's
-- Assumes nothing.
use Rattle.std.specs.Prelude.{◌≡◌, ℕ, suc, ◌+◌}
use Rattle.protocol.specs.Alphabet.{Alphabet}
use Rattle.protocol.specs.Shape.{Shape, mask_at, k_of}

pub record MaskPlaces (A : Alphabet) : Type 0 where
  pub first : (s : Shape) → mask_at A s 0 ≡ s.n
  pub next : (s : Shape) (e : ℕ) → mask_at A s (suc e) ≡ mask_at A s e + A.masks
  pub end : (s : Shape) → mask_at A s s.τ ≡ k_of A s
  pub alone : (s : Shape) → s.τ ≡ 1 → k_of A s ≡ s.n + A.masks
