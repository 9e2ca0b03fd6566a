-- The check program: six sections on standard input, each after its count, and one line on standard output.
--   lengths_in n s == the counts of the first n sections of s, as they stand
--   readable n most input == input is at most `most` bytes: n whole sections and nothing more
--   Checked == what is printed: an answer of the verifier, or unread;  decimal x == x in decimal digits
--   eight == the setting of the check program, degree 8
--   check_of g input == what is printed of the input, in the setting g;  line_of == the line;  check_line g input == the
--     whole output
-- Assumes nothing.
use Rattle.std.specs.Prelude.{Bool, true, false, ◌&&◌, List, [], ◌∷◌, ◌++◌, ℕ, zero, suc, ◌+◌, ◌/◌, ◌%◌, leb, ltb, length, drop}
use Rattle.protocol.specs.Frames.{num4, framed, section_no}
use Rattle.protocol.specs.Setting.{Setting, setting}
use Rattle.protocol.specs.Answers.{Answer, accepted, refused}
use Rattle.protocol.specs.Calls.{verify_answer}

unfoldable pub lengths_in : ℕ → List ℕ → List ℕ
lengths_in zero s = []
lengths_in (suc n) s = num4 s 0 ∷ lengths_in n (drop (4 + num4 s 0) s)

unfoldable pub readable : ℕ → ℕ → List ℕ → Bool
readable n most input = leb (length input) most && framed (lengths_in n input) input

pub data Checked : Type 0 where
  answered : Answer → Checked
  unread : Checked

abbrev pub eight : Setting
eight = setting 8

unfoldable pub check_of : Setting → List ℕ → Checked
check_of g input =
    let no : ℕ → List ℕ = λ i. section_no (lengths_in 6 input) i input in
    elim (readable 6 65536 input) [ true ↦ answered (verify_answer g (no 0) (no 1) (no 2) (no 3) (no 4) (no 5)) | false ↦ unread ]

-- the last digits of x, at most `fuel` of them
unfoldable pub decimal_digits : ℕ → ℕ → List ℕ
decimal_digits zero x = []
decimal_digits (suc fuel) x = elim (ltb x 10) [ true ↦ (48 + x) ∷ [] | false ↦ decimal_digits fuel (x / 10) ++ ((48 + x % 10) ∷ []) ]

unfoldable pub decimal : ℕ → List ℕ
decimal x = decimal_digits (suc x) x

-- "accepted", "refused", "unread"
abbrev pub verdict_text : Checked → List ℕ
verdict_text (answered accepted) = 97 ∷ 99 ∷ 99 ∷ 101 ∷ 112 ∷ 116 ∷ 101 ∷ 100 ∷ []
verdict_text (answered (refused i p)) = 114 ∷ 101 ∷ 102 ∷ 117 ∷ 115 ∷ 101 ∷ 100 ∷ []
verdict_text unread = 117 ∷ 110 ∷ 114 ∷ 101 ∷ 97 ∷ 100 ∷ []

abbrev pub numbers_text : Checked → List ℕ
numbers_text (answered accepted) = decimal 0 ++ (32 ∷ decimal 0)
numbers_text (answered (refused i p)) = decimal i ++ (32 ∷ decimal p)
numbers_text unread = decimal 0 ++ (32 ∷ decimal 0)

unfoldable pub line_of : Checked → List ℕ
line_of c = verdict_text c ++ (32 ∷ numbers_text c ++ (10 ∷ []))

unfoldable pub check_line : Setting → List ℕ → List ℕ
check_line g input = line_of (check_of g input)
