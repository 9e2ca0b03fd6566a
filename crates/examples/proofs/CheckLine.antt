-- The check program's lines for the toy: the input computed to be the six sections, and their answers as the table has
-- them.
--   reading == names nothing: a declaration that says `unfolding reading` computes how the input is read
-- Assumes nothing.
use mathlib.Core.Path.{◌≡◌, refl, ap, ◌∙◌}
use mathlib.Core.Bool.{true, false}
use mathlib.Core.List.{List, [], ◌∷◌, ◌++◌}
use Prim.Native.Nat.{ℕ}
use lib.ListN.{take}
use Rattle.protocol.specs.Frames.{section_no}
use Rattle.protocol.specs.Shape.{shape_of}
use Rattle.protocol.specs.Counting.{opening}
use Rattle.protocol.specs.Answers.{Answer, accepted, refused}
use Rattle.protocol.specs.Calls.{verify_answer}
use Rattle.protocol.specs.Check.{eight, answered, unread, lengths_in, readable, check_of, decimal_digits, decimal, line_of, check_line}
use Rattle.examples.specs.Toy.{A, key, leaves, H', χ, proof_with, answer_with}
use Rattle.examples.specs.CheckLine.{input_with, input, line_accepted, line15, line14, line_unread, CheckLines}
use Rattle.examples.proofs.ToyComputing.{computing}
use Rattle.examples.proofs.ToyVerifier.{proof_at_02, QS1_changed_at_02, ũ_changed_at_02}

unfoldable reading : ℕ
unfolding computing lengths_in readable input_with
reading = 0

-- ---- where the sections are read

read_is : (s : List ℕ) {k d h x o p : List ℕ} → readable 6 65536 s ≡ true
    → section_no (lengths_in 6 s) 0 s ≡ k → section_no (lengths_in 6 s) 1 s ≡ d → section_no (lengths_in 6 s) 2 s ≡ h
    → section_no (lengths_in 6 s) 3 s ≡ x → section_no (lengths_in 6 s) 4 s ≡ o → section_no (lengths_in 6 s) 5 s ≡ p
    → check_of eight s ≡ answered (verify_answer eight k d h x o p)
unfolding check_of
read_is s r k d h x o p =
    let e : check_of eight s ≡ answered (verify_answer eight (section_no (lengths_in 6 s) 0 s) (section_no (lengths_in 6 s) 1 s) (section_no (lengths_in 6 s) 2 s) (section_no (lengths_in 6 s) 3 s) (section_no (lengths_in 6 s) 4 s) (section_no (lengths_in 6 s) 5 s)) = rw (check_of, r) in
    e ∙ (λ i. answered (verify_answer eight (k i) (d i) (h i) (x i) (o i) (p i)))

unread_is : (s : List ℕ) → readable 6 65536 s ≡ false → check_of eight s ≡ unread
unfolding check_of
unread_is s r = rw (check_of, r)

-- the toy's input, whatever the proof's ũ and QS1
module _ (ũ q : ℕ) where
  abbrev s : List ℕ
  s = input_with key 0x02 (proof_with ũ 0x03 q)

  whole : readable 6 65536 s ≡ true
  unfolding reading
  whole = refl

  at_0 : section_no (lengths_in 6 s) 0 s ≡ key
  unfolding reading
  at_0 = refl

  at_1 : section_no (lengths_in 6 s) 1 s ≡ 0x02 ∷ []
  unfolding reading
  at_1 = refl

  at_2 : section_no (lengths_in 6 s) 2 s ≡ H'
  unfolding reading
  at_2 = refl

  at_3 : section_no (lengths_in 6 s) 3 s ≡ χ
  unfolding reading
  at_3 = refl

  at_4 : section_no (lengths_in 6 s) 4 s ≡ opening A (shape_of key) leaves (0x02 ∷ [])
  unfolding reading
  at_4 = refl

  at_5 : section_no (lengths_in 6 s) 5 s ≡ proof_with ũ 0x03 q
  unfolding reading
  at_5 = refl

  answer_is : check_of eight s ≡ answered (answer_with key 0x02 (proof_with ũ 0x03 q))
  answer_is = read_is s whole at_0 at_1 at_2 at_3 at_4 at_5

-- ---- the lines

text_accepted : line_of (answered accepted) ≡ line_accepted
unfolding line_of decimal decimal_digits
text_accepted = refl

text_15 : line_of (answered (refused 15 0)) ≡ line15
unfolding line_of decimal decimal_digits
text_15 = refl

text_14 : line_of (answered (refused 14 0)) ≡ line14
unfolding line_of decimal decimal_digits
text_14 = refl

text_unread : line_of unread ≡ line_unread
unfolding line_of decimal decimal_digits
text_unread = refl

line-of : (ũ q : ℕ) {a : Answer} {line : List ℕ} → answer_with key 0x02 (proof_with ũ 0x03 q) ≡ a → line_of (answered a) ≡ line → check_line eight (input_with key 0x02 (proof_with ũ 0x03 q)) ≡ line
unfolding check_line
line-of ũ q e t = ap line_of (answer_is ũ q ∙ ap answered e) ∙ t

unread-line : (s : List ℕ) → readable 6 65536 s ≡ false → check_line eight s ≡ line_unread
unfolding check_line
unread-line s r = ap line_of (unread_is s r) ∙ text_unread

empty : readable 6 65536 [] ≡ false
unfolding reading
empty = refl

cut : readable 6 65536 (take 590 input) ≡ false
unfolding reading
cut = refl

over : readable 6 65536 (input ++ (0x00 ∷ [])) ≡ false
unfolding reading
over = refl

pub check_lines : CheckLines
check_lines = record {
  toy_at_02 = line-of 0x01 0x04 proof_at_02 text_accepted;
  QS1_changed_at_02 = line-of 0x01 0x05 QS1_changed_at_02 text_15;
  ũ_changed_at_02 = line-of 0x00 0x04 ũ_changed_at_02 text_14;
  nothing = unread-line [] empty;
  last-byte-cut = unread-line (take 590 input) cut;
  one-byte-over = unread-line (input ++ (0x00 ∷ [])) over;
}
