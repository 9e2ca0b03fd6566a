-- Answers, and how a list of questions gives one.
--   Answer == accepted, or refused with a number and a place;  number_of, place_of == these, 0 where accepted
--   word == what C receives: number × 65,536 + place, 0 for accepted;  is_accepted == as a Bool
--   Question == a test, and the number and place of the refusal on a no
--   ask qs == the refusal of the first question that gets a no
--   all_yes qs == every question gets a yes
--   written a old new == the output after a call that answers a: a refusal writes nothing
--   Published s a == a is accepted or stands in the published list, for a key of sizes s
-- Assumes nothing.
use Rattle.std.specs.Prelude.{Bool, true, false, ◌&&◌, List, [], ◌∷◌, ℕ, ◌+◌, ◌*◌, ◌<◌}
use Rattle.protocol.specs.Shape.{Shape}

pub data Answer : Type 0 where
  accepted : Answer
  refused : ℕ → ℕ → Answer

abbrev pub number_of : Answer → ℕ
number_of accepted = 0
number_of (refused i p) = i

abbrev pub place_of : Answer → ℕ
place_of accepted = 0
place_of (refused i p) = p

unfoldable pub word : Answer → ℕ
word a = number_of a * 65536 + place_of a

abbrev pub is_accepted : Answer → Bool
is_accepted accepted = true
is_accepted (refused i p) = false

pub record Question : Type 0 where
  pub yes? : Bool
  pub number : ℕ
  pub place : ℕ

abbrev pub question : Bool → ℕ → ℕ → Question
question b i p = record { yes? = b; number = i; place = p }

unfoldable pub ask : List Question → Answer
ask [] = accepted
ask (x ∷ qs) = elim x.yes? [ true ↦ ask qs | false ↦ refused x.number x.place ]

abbrev pub all_yes : List Question → Bool
all_yes [] = true
all_yes (x ∷ qs) = x.yes? && all_yes qs

abbrev pub written : Answer → List ℕ → List ℕ → List ℕ
written accepted old new = new
written (refused i p) old new = old

pub data Published (s : Shape) : Answer → Type 0 where
  taken : Published s accepted
  header-short : Published s (refused 1 0)
  size_out_of_range : Published s (refused 2 0)
  key-length : Published s (refused 3 0)
  key-spare-bit : Published s (refused 4 0)
  challenge-length : Published s (refused 5 0)
  hash-spare-bit : Published s (refused 6 0)
  leaf-length : Published s (refused 7 0)
  leaf-spare-bit : Published s (refused 8 0)
  witness-form : Published s (refused 9 0)
  output_length : Published s (refused 10 0)
  equation_fails : (i : ℕ) → i < s.m → Published s (refused 11 i)
  proof-length : Published s (refused 12 0)
  proof-spare-bit : Published s (refused 13 0)
  inconsistent : (e : ℕ) → e < s.τ → Published s (refused 14 e)
  product-differs : (e : ℕ) → e < s.τ → Published s (refused 15 e)
  degree_unserved : Published s (refused 16 0)
  challenge_element : Published s (refused 17 0)
  proof_element : Published s (refused 18 0)
