-- What the check program makes of six strings, each after its count: proofs/ReadBack proves these of `check_of`, the
-- very name in the program's contract.
--   six k d h x o p == the strings, each after its count
--   ReadBack == "reads key, Δ, H', χ, opened leaves, proof ..., each after its four-byte count": the verifier is asked
--     of these very strings, at degree 8
--   TooLong == "more than 65,536 bytes of input in all";  LeftOver == "bytes left over";  CutShort == "a cut section":
--     an input that ends early, wherever
-- Assumes nothing.
use Rattle.std.specs.Prelude.{◌≡◌, List, [], ◌∷◌, ◌++◌, ℕ, ◌≤◌, ◌<◌, length, take}
use Rattle.protocol.specs.Frames.{frame}
use Rattle.protocol.specs.Calls.{verify_answer}
use Rattle.protocol.specs.Check.{eight, answered, unread, check_of}

abbrev pub six : List ℕ → List ℕ → List ℕ → List ℕ → List ℕ → List ℕ → List ℕ
six k d h x o p = frame (k ∷ d ∷ h ∷ x ∷ o ∷ p ∷ [])

abbrev pub ReadBack : Type 0
ReadBack = (k d h x o p : List ℕ) → length (six k d h x o p) ≤ 65536 → check_of eight (six k d h x o p) ≡ answered (verify_answer eight k d h x o p)

abbrev pub TooLong : Type 0
TooLong = (s : List ℕ) → 65536 < length s → check_of eight s ≡ unread

abbrev pub LeftOver : Type 0
LeftOver = (k d h x o p over : List ℕ) → length (six k d h x o p) ≤ 65536 → 0 < length over → check_of eight (six k d h x o p ++ over) ≡ unread

abbrev pub CutShort : Type 0
CutShort = (k d h x o p : List ℕ) (n : ℕ) → length (six k d h x o p) ≤ 65536 → n < length (six k d h x o p) → check_of eight (take n (six k d h x o p)) ≡ unread
