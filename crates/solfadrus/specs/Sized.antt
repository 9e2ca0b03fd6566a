-- What the size functions answer: a size of a key's data where the sizes are in range and the degree is served, and
-- else 0.
--   shape n m τ t == the shape with those sizes
--   is_sized g z == g is served and z in range;  sizes_of n m τ t d == those sizes and that degree, as the code has them
--   sized g z f == f at the alphabet of g and at z, where g is served and z in range, else 0
-- Assumes nothing.
use Rattle.std.specs.Prelude.{Bool, cond, ◌&&◌, ℕ}
use Rattle.protocol.specs.Alphabet.{Alphabet}
use Rattle.protocol.specs.Setting.{Setting, served, alphabet_of}
use Rattle.protocol.specs.Shape.{Shape, limits}
use Rattle.format.specs.declared.sizes.Sizes.{Sizes}

abbrev pub shape : ℕ → ℕ → ℕ → ℕ → Shape
shape n m τ t = record { n = n; m = m; τ = τ; t = t }

abbrev pub is_sized : Setting → Shape → Bool
is_sized g z = served g && limits z

abbrev pub sizes_of : ℕ → ℕ → ℕ → ℕ → ℕ → Sizes
sizes_of n m τ t d = record { n = n; m = m; tau = τ; t = t; degree = d; alphabet = 2 }

abbrev pub sized : Setting → Shape → (Alphabet → Shape → ℕ) → ℕ
sized g z f = cond (is_sized g z) (f (alphabet_of g) z) 0
