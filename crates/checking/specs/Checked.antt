-- What the check program reads and prints.
--   checked_of o == the verifier's answer, or unread
--   lengths_read s == the lengths of six sections, where s is these, each after its count, and nothing more
--   line_text word i p == the line of a word and two numbers
--   verify_parts ls s == the verifier's answer, at degree 8, to the first six sections of s, as they stand in a string
--     of sections of the lengths ls
-- Assumes nothing.
use Rattle.std.specs.Prelude.{List, [], ◌∷◌, ◌++◌, ℕ, Option, Some, None}
use Rattle.std.specs.Bool.{then_some}
use Rattle.protocol.specs.Frames.{framed, section_no}
use Rattle.protocol.specs.Answers.{Answer}
use Rattle.protocol.specs.Calls.{verify_answer}
use Rattle.protocol.specs.Check.{Checked, eight, answered, unread, decimal, lengths_in}
use Rattle.format.specs.Verdict.{answer_of}
use Rattle.format.specs.declared.Verdict.{Verdict}

abbrev pub checked_of : Option Verdict → Checked
checked_of (Some v) = answered (answer_of v)
checked_of None = unread

abbrev pub lengths_read : List ℕ → Option (List ℕ)
lengths_read s = then_some (framed (lengths_in 6 s) s) (lengths_in 6 s)

abbrev pub line_text : List ℕ → ℕ → ℕ → List ℕ
line_text word i p = word ++ (32 ∷ (decimal i ++ (32 ∷ decimal p)) ++ (10 ∷ []))

abbrev pub verify_parts : List ℕ → List ℕ → Answer
verify_parts ls s = verify_answer eight (section_no ls 0 s) (section_no ls 1 s) (section_no ls 2 s) (section_no ls 3 s) (section_no ls 4 s) (section_no ls 5 s)
