-- The size functions in range, and out of it.
-- Assumes nothing.
use mathlib.Core.Path.{◌≡◌, refl}
use mathlib.Core.Bool.{true, false, ◌&&◌}
use Prim.Native.Nat.{ℕ}
use Rattle.algebra.proofs.CountLaws.{and_right}
use Rattle.protocol.specs.Alphabet.{Alphabet}
use Rattle.protocol.specs.Setting.{Setting, served, alphabet_of}
use Rattle.protocol.specs.Shape.{Shape, limits}
use Rattle.solfadrus.specs.Sized.{sized}

pub in-range : (g : Setting) (z : Shape) (f : Alphabet → Shape → ℕ) → (served g && limits z) ≡ true → f (alphabet_of g) z ≡ sized g z f
in-range g z f h = rw h refl

pub out_of_range : (g : Setting) (z : Shape) (f : Alphabet → Shape → ℕ) → (served g && limits z) ≡ false → 0 ≡ sized g z f
out_of_range g z f h = rw h refl

pub limits_of : (g : Setting) (z : Shape) → (served g && limits z) ≡ true → limits z ≡ true
limits_of g z h = and_right (served g) (limits z) h
