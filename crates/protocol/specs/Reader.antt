-- One section of a string of sections: where its bytes stand, by the count that is found there, whatever it is.
--   Extent == from a start up to an end, or missing
--   section_at s at == the section whose count stands at index at: missing where it is not there whole
-- Assumes nothing.
use Rattle.std.specs.Prelude.{true, false, ◌&&◌, List, ℕ, ◌+◌, leb, length}
use Rattle.protocol.specs.Frames.{num4}

pub data Extent : Type 0 where
  between : ℕ → ℕ → Extent
  missing : Extent

unfoldable pub section_at : List ℕ → ℕ → Extent
section_at s at =
    elim (leb (at + 4) (length s) && leb (at + 4 + num4 s at) (length s)) [ true ↦ between (at + 4) (at + 4 + num4 s at) | false ↦ missing ]
