-- What the reader of sections gives at an index of a proof (01: it takes one section at a time, and gives back the
-- section itself).
--   answer_at s at == accepted where the section whose count stands at index at of s is there whole; else the refusal
--     12, place 0
--   next_at s at == how far has been read after it: up to the section's end; where the section is missing, no further
--     than at
--   bytes_at s at == the section itself, as part of s; nothing where it is missing
--   read_to s i == how far has been read after i sections, from the front on
-- Assumes nothing.
use Rattle.std.specs.Prelude.{List, [], ℕ, zero, suc, ◌-◌}
use Rattle.protocol.specs.Lists.{part}
use Rattle.protocol.specs.Reader.{Extent, between, missing, section_at}
use Rattle.protocol.specs.Answers.{Answer, accepted, refused}

abbrev pub answer_on : Extent → Answer
answer_on (between start end) = accepted
answer_on missing = refused 12 0

abbrev pub next_on : ℕ → Extent → ℕ
next_on at (between start end) = end
next_on at missing = at

abbrev pub bytes_on : List ℕ → Extent → List ℕ
bytes_on s (between start end) = part s start (end - start)
bytes_on s missing = []

unfoldable pub answer_at : List ℕ → ℕ → Answer
answer_at s at = answer_on (section_at s at)

unfoldable pub next_at : List ℕ → ℕ → ℕ
next_at s at = next_on at (section_at s at)

unfoldable pub bytes_at : List ℕ → ℕ → List ℕ
bytes_at s at = bytes_on s (section_at s at)

unfoldable pub read_to : List ℕ → ℕ → ℕ
read_to s zero = 0
read_to s (suc i) = next_at s (read_to s i)
