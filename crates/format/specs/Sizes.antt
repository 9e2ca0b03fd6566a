-- The sizes that the code carries, as the shape of a key.
--   shape_for sizes == n, m, τ, t of 01;  setting_for sizes == the setting with their degree
--   alphabet_for sizes == the alphabet of that setting. It is bits: `alphabet` has one value so far
--   SizesOf key sizes == the sizes are those in the key's header, where it has one
-- Assumes nothing.
use Rattle.std.specs.Prelude.{◌≡◌, List, ℕ, ◌≤◌, length}
use Rattle.protocol.specs.Alphabet.{Alphabet}
use Rattle.protocol.specs.Setting.{Setting, setting, alphabet_of}
use Rattle.protocol.specs.Shape.{Shape, shape_of}
use Rattle.format.specs.declared.sizes.Sizes.{Sizes}

abbrev pub shape_for : Sizes → Shape
shape_for s = record { n = s.n; m = s.m; τ = s.tau; t = s.t }

abbrev pub setting_for : Sizes → Setting
setting_for s = setting s.degree

abbrev pub alphabet_for : Sizes → Alphabet
alphabet_for s = alphabet_of (setting_for s)

abbrev pub SizesOf : List ℕ → Sizes → Type 0
SizesOf key s = 8 ≤ length key → shape_for s ≡ shape_of key
