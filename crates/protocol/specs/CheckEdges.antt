-- The check program's edges: which inputs it reads, and its numbers in decimal.
-- proofs/CheckEdges proves each statement.
--   section i input == section i of the input, by the counts that are found
-- Assumes nothing.
use Rattle.std.specs.Prelude.{◌≡◌, true, false, List, [], ◌∷◌, ℕ, ◌<◌, ◌≤◌, length}
use Rattle.protocol.specs.Frames.{framed, section_no}
use Rattle.protocol.specs.Calls.{verify_answer}
use Rattle.protocol.specs.Check.{eight, answered, unread, lengths_in, check_of, decimal}

abbrev pub section : ℕ → List ℕ → List ℕ
section i input = section_no (lengths_in 6 input) i input

-- "More than 65,536 bytes of input in all, a cut section or bytes left over give `unread 0 0`."
pub record CheckReads : Type 0 where
  pub too_long : (input : List ℕ) → 65536 < length input → check_of eight input ≡ unread
  pub not-whole : (input : List ℕ) → framed (lengths_in 6 input) input ≡ false → check_of eight input ≡ unread
  -- key, Δ, H', χ, opened leaves, proof
  pub whole : (input : List ℕ) → length input ≤ 65536 → framed (lengths_in 6 input) input ≡ true
      → check_of eight input ≡ answered (verify_answer eight (section 0 input) (section 1 input) (section 2 input) (section 3 input) (section 4 input) (section 5 input))

pub record Decimals : Type 0 where
  pub one_digit : decimal 0 ≡ 48 ∷ []
  pub two_digits : decimal 10 ≡ 49 ∷ 48 ∷ []
  pub three-digits : decimal 159 ≡ 49 ∷ 53 ∷ 57 ∷ []
