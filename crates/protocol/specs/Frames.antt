-- Numbers in two and four bytes, lowest first; and sections, each after its byte count of four bytes.
--   num2 s at, num4 s at == the number in two, in four bytes of s from index at on;  count4 x == x in four bytes
--   frame ss == the sections ss, each after its count
--   framed ls s == s is sections of the lengths ls, each after its exact count, and ends with the last
--   section_no ls i s == section i of such a string;  framed_length ls == its length, counts included
-- Assumes nothing.
use Rattle.std.specs.Prelude.{Bool, ◌&&◌, List, [], ◌∷◌, ◌++◌, ℕ, zero, suc, ◌+◌, ◌*◌, ◌/◌, ◌%◌, eqb, leb, get_or, take, drop, length}

unfoldable pub num2 : List ℕ → ℕ → ℕ
num2 s at = get_or s at 0 + get_or s (at + 1) 0 * 256

unfoldable pub num4 : List ℕ → ℕ → ℕ
num4 s at = num2 s at + num2 s (at + 2) * 65536

unfoldable pub count4 : ℕ → List ℕ
count4 x = x % 256 ∷ x / 256 % 256 ∷ x / 65536 % 256 ∷ x / 16777216 % 256 ∷ []

unfoldable pub frame : List (List ℕ) → List ℕ
frame [] = []
frame (s ∷ ss) = count4 (length s) ++ (s ++ frame ss)

unfoldable pub framed : List ℕ → List ℕ → Bool
framed [] s = eqb (length s) 0
framed (l ∷ ls) s = leb (4 + l) (length s) && (eqb (num4 s 0) l && framed ls (drop (4 + l) s))

unfoldable pub section_no : List ℕ → ℕ → List ℕ → List ℕ
section_no [] i s = []
section_no (l ∷ ls) zero s = take l (drop 4 s)
section_no (l ∷ ls) (suc i) s = section_no ls i (drop (4 + l) s)

unfoldable pub framed_length : List ℕ → ℕ
framed_length [] = 0
framed_length (l ∷ ls) = 4 + l + framed_length ls
