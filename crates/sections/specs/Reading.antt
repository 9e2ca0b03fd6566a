-- A string of sections read one after the other, each from where the one before ended, by the counts that stand there.
--   Reads s at ls ss == from index at on, sections of the lengths ls are found, they are the strings ss, and s ends
--     with the last
-- Assumes nothing.
use Rattle.std.specs.Prelude.{◌≡◌, List, [], ◌∷◌, ℕ, ◌-◌, length}
use Rattle.protocol.specs.Lists.{part}
use Rattle.protocol.specs.Reader.{between, section_at}

abbrev pub Reads : List ℕ → ℕ → List ℕ → List (List ℕ) → Type 0
Reads s at [] [] = at ≡ length s
Reads s at [] (x ∷ ss) = ⊥
Reads s at (l ∷ ls) [] = ⊥
Reads s at (l ∷ ls) (x ∷ ss) =
    (start : ℕ) × (end : ℕ) × (section_at s at ≡ between start end) × (end - start ≡ l) × (x ≡ part s start (end - start)) × Reads s end ls ss
