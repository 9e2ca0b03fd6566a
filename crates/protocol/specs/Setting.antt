-- What a caller names beside the key (request 3): the degree of the field, 8 or 4.
--   Setting == the degree as it is lent;  setting degree == the setting that names it
--   served g == the degree is 8 or 4;  q16 g == "degree neither 8 nor 4, first of all questions"
--   alphabet_of g == what coordinates are: bits over the field of the degree. A degree that is not served is refused,
--     and what it would stand for is seen by nobody
--   size_of g == how many elements the field has
-- Assumes nothing.
use Rattle.std.specs.Prelude.{Bool, ◌||◌, ℕ, eqb}
use Rattle.galois.specs.Degrees.{field_of}
use Rattle.protocol.specs.Alphabet.{Alphabet}
use Rattle.protocol.specs.Binary.{binary}
use Rattle.protocol.specs.Answers.{Question, question}

pub record Setting : Type 0 where
  pub degree : ℕ

abbrev pub setting : ℕ → Setting
setting degree = record { degree = degree }

unfoldable pub served : Setting → Bool
served g = eqb g.degree 8 || eqb g.degree 4

abbrev pub q16 : Setting → Question
q16 g = question (served g) 16 0

abbrev pub alphabet_of : Setting → Alphabet
alphabet_of g = binary (field_of g.degree)

abbrev pub size_of : Setting → ℕ
size_of g = (alphabet_of g).K.base.size
