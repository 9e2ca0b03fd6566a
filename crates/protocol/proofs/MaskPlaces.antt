-- The places of the masks, from their definition.
-- Assumes nothing.
use mathlib.Core.Path.{refl, ap, ◌∙◌}
use Prim.Native.Nat.{ℕ, ◌+◌, ◌*◌}
use native.Mathlib.Nat.{suc-mul, zero-mul, one-mul}
use native.Mathlib.Omega.{arith}
use Rattle.protocol.specs.Alphabet.{Alphabet}
use Rattle.protocol.specs.Shape.{mask_at, k_of}
use Rattle.protocol.specs.MaskPlaces.{MaskPlaces}

pub mask_places : (A : Alphabet) → MaskPlaces A
unfolding mask_at k_of
mask_places A = record {
  first = λ s. omega (arith, zero-mul A.masks);
  next = λ s e. omega (arith, suc-mul e A.masks);
  end = λ s. refl;
  alone = λ s h. ap (λ (r : ℕ). s.n + r * A.masks) h ∙ ap (λ (x : ℕ). s.n + x) (one-mul A.masks);
}
