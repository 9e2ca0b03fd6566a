-- Each call is refused by each of its questions in turn, and taken where all of them get a yes.
-- proofs/Refusals computes each statement.
-- The strings are those of SmallExample. One that is damaged has the number of the question that finds it out.
--   key₁ == no byte;  key₂ == n with its high byte set;  key₃ == a byte too many;  key₄ == the last spare bit of y set
--   H₅, χ₅ == a byte too many;  H₆ == a spare bit of the last row set;  leaves₇, opened₇ == a byte missing
--   leaves₈, opened₈ == a spare bit of the last leaf set;  x₉ == a spare bit set
--   x₁₁ == a witness at which both equations fail
--   out n == n bytes to write on;  proof₁₂ == a byte too many;  proof₁₃ == a spare bit of ũ set;  proof₁₄ == Ṽ changed
--   proof₁₅ == QS0 changed
--   five, high == degrees that are not served: 5, and 260, whose low byte is 4
--   χ₁₇, Δ₁₇ == the last byte is 10, no element of GF(16);  Ṽ₁₈, QS0₁₈, QS1₁₈ == the proof whose section has 10 for its
--     last byte
--   refused_by is == refused by each of the numbers is, with the place 0
--   test, .., verify == the calls' answers
-- Assumes nothing.
use Rattle.std.specs.Prelude.{◌≡◌, List, [], ◌∷◌, ◌++◌, map, ℕ, replicate, take}
use Rattle.protocol.specs.Setting.{Setting, setting}
use Rattle.protocol.specs.Answers.{Answer, accepted, refused}
use Rattle.protocol.specs.Calls.{test_answer, commit_answer, hash_answer, batch_answer, prove_answer, verify_answer}
use Rattle.protocol.specs.SmallExample.{four, changed, key, witness, leaves, H', χ, Δ, proof, opened}

abbrev pub key₁ : List ℕ
key₁ = []

abbrev pub key₂ : List ℕ
key₂ = changed key 1 0x02

abbrev pub key₃ : List ℕ
key₃ = key ++ (0x00 ∷ [])

abbrev pub key₄ : List ℕ
key₄ = changed key 60 0x80

abbrev pub H₅ : List ℕ
H₅ = H' ++ (0x00 ∷ [])

abbrev pub χ₅ : List ℕ
χ₅ = χ ++ (0x00 ∷ [])

abbrev pub H₆ : List ℕ
H₆ = changed H' 5 0x02

abbrev pub leaves₇ : List ℕ
leaves₇ = take 95 leaves

abbrev pub leaves₈ : List ℕ
leaves₈ = changed leaves 95 0x80

abbrev pub opened₇ : List ℕ
opened₇ = take 89 opened

abbrev pub opened₈ : List ℕ
opened₈ = changed opened 89 0x80

abbrev pub x₉ : List ℕ
x₉ = changed witness 1 0x02

abbrev pub x₁₁ : List ℕ
x₁₁ = changed witness 0 0x04

abbrev pub out : ℕ → List ℕ
out n = replicate n 0x00

abbrev pub proof₁₂ : List ℕ
proof₁₂ = proof ++ (0x00 ∷ [])

abbrev pub proof₁₃ : List ℕ
proof₁₃ = changed proof 17 0x04

abbrev pub proof₁₄ : List ℕ
proof₁₄ = changed proof 22 0x01

abbrev pub proof₁₅ : List ℕ
proof₁₅ = changed proof 30 0x01

abbrev pub five : Setting
five = setting 5

abbrev pub high : Setting
high = setting 260

abbrev pub χ₁₇ : List ℕ
χ₁₇ = changed χ 3 0x19

abbrev pub Δ₁₇ : List ℕ
Δ₁₇ = changed Δ 1 0x1B

abbrev pub Ṽ₁₈ : List ℕ
Ṽ₁₈ = changed proof 25 0x18

abbrev pub QS0₁₈ : List ℕ
QS0₁₈ = changed proof 31 0x13

abbrev pub QS1₁₈ : List ℕ
QS1₁₈ = changed proof 37 0x1C

abbrev pub refused_by : List ℕ → List Answer
refused_by is = map (λ i. refused i 0) is

abbrev pub test : List ℕ → List ℕ → Answer
test k x = test_answer four k x

abbrev pub commit : List ℕ → List ℕ → List ℕ → ℕ → Answer
commit k l x n = commit_answer four k l x (out n)

abbrev pub hash : List ℕ → List ℕ → List ℕ → ℕ → Answer
hash k l h n = hash_answer four k l h (out n)

abbrev pub batch : List ℕ → List ℕ → List ℕ → List ℕ → ℕ → Answer
batch k l x c n = batch_answer four k l x c (out n)

abbrev pub prove : List ℕ → List ℕ → List ℕ → List ℕ → List ℕ → ℕ → Answer
prove k l x h c n = prove_answer four k l x h c (out n)

abbrev pub verify : List ℕ → List ℕ → List ℕ → List ℕ → List ℕ → Answer
verify k h c o p = verify_answer four k Δ h c o p

pub record Refusals : Type 0 where
  pub test-refused : test_answer five key witness ∷ test_answer high key witness
      ∷ test key₁ witness ∷ test key₂ witness ∷ test key₃ witness ∷ test key₄ witness
      ∷ test key x₉ ∷ test key x₁₁ ∷ []
      ≡ refused_by (16 ∷ 16 ∷ 1 ∷ 2 ∷ 3 ∷ 4 ∷ 9 ∷ 11 ∷ [])
  pub commit-refused : commit_answer five key leaves witness (out 13) ∷ commit_answer high key leaves witness (out 13)
      ∷ commit key₁ leaves witness 13 ∷ commit key₂ leaves witness 13 ∷ commit key₃ leaves witness 13 ∷ commit key₄ leaves witness 13
      ∷ commit key leaves₇ witness 13 ∷ commit key leaves₈ witness 13 ∷ commit key leaves x₉ 13 ∷ commit key leaves witness 14
      ∷ commit key leaves x₁₁ 13 ∷ []
      ≡ refused_by (16 ∷ 16 ∷ 1 ∷ 2 ∷ 3 ∷ 4 ∷ 7 ∷ 8 ∷ 9 ∷ 10 ∷ 11 ∷ [])
  pub hash-refused : hash_answer five key leaves H' (out 13) ∷ hash_answer high key leaves H' (out 13)
      ∷ hash key₁ leaves H' 13 ∷ hash key₂ leaves H' 13 ∷ hash key₃ leaves H' 13 ∷ hash key₄ leaves H' 13
      ∷ hash key leaves H₅ 13 ∷ hash key leaves H₆ 13 ∷ hash key leaves₇ H' 13 ∷ hash key leaves₈ H' 13
      ∷ hash key leaves H' 12 ∷ []
      ≡ refused_by (16 ∷ 16 ∷ 1 ∷ 2 ∷ 3 ∷ 4 ∷ 5 ∷ 6 ∷ 7 ∷ 8 ∷ 10 ∷ [])
  pub batch-refused : batch_answer five key leaves witness χ (out 12) ∷ batch_answer high key leaves witness χ (out 12)
      ∷ batch key₁ leaves witness χ 12 ∷ batch key₂ leaves witness χ 12 ∷ batch key₃ leaves witness χ 12 ∷ batch key₄ leaves witness χ 12
      ∷ batch key leaves witness χ₅ 12 ∷ batch key leaves witness χ₁₇ 12 ∷ batch key leaves₇ witness χ 12 ∷ batch key leaves₈ witness χ 12 ∷ batch key leaves x₉ χ 12
      ∷ batch key leaves witness χ 13 ∷ batch key leaves x₁₁ χ 12 ∷ []
      ≡ refused_by (16 ∷ 16 ∷ 1 ∷ 2 ∷ 3 ∷ 4 ∷ 5 ∷ 17 ∷ 7 ∷ 8 ∷ 9 ∷ 10 ∷ 11 ∷ [])
  pub prove-refused : prove_answer five key leaves witness H' χ (out 38) ∷ prove_answer high key leaves witness H' χ (out 38)
      ∷ prove key₁ leaves witness H' χ 38 ∷ prove key₂ leaves witness H' χ 38 ∷ prove key₃ leaves witness H' χ 38 ∷ prove key₄ leaves witness H' χ 38
      ∷ prove key leaves witness H₅ χ 38 ∷ prove key leaves witness H' χ₅ 38 ∷ prove key leaves witness H₆ χ 38 ∷ prove key leaves witness H' χ₁₇ 38 ∷ prove key leaves₇ witness H' χ 38
      ∷ prove key leaves₈ witness H' χ 38 ∷ prove key leaves x₉ H' χ 38 ∷ prove key leaves witness H' χ 37 ∷ prove key leaves x₁₁ H' χ 38 ∷ []
      ≡ refused_by (16 ∷ 16 ∷ 1 ∷ 2 ∷ 3 ∷ 4 ∷ 5 ∷ 5 ∷ 6 ∷ 17 ∷ 7 ∷ 8 ∷ 9 ∷ 10 ∷ 11 ∷ [])
  pub verify-refused : verify_answer five key Δ H' χ opened proof ∷ verify_answer high key Δ H' χ opened proof
      ∷ verify key₁ H' χ opened proof ∷ verify key₂ H' χ opened proof ∷ verify key₃ H' χ opened proof ∷ verify key₄ H' χ opened proof
      ∷ verify key H₅ χ opened proof ∷ verify key H' χ₅ opened proof ∷ verify key H₆ χ opened proof ∷ verify_answer four key Δ₁₇ H' χ opened proof
      ∷ verify key H' χ₁₇ opened proof ∷ verify key H' χ opened₇ proof
      ∷ verify key H' χ opened₈ proof ∷ verify key H' χ opened proof₁₂ ∷ verify key H' χ opened proof₁₃ ∷ verify key H' χ opened Ṽ₁₈
      ∷ verify key H' χ opened QS0₁₈ ∷ verify key H' χ opened QS1₁₈ ∷ verify key H' χ opened proof₁₄
      ∷ verify key H' χ opened proof₁₅ ∷ []
      ≡ refused_by (16 ∷ 16 ∷ 1 ∷ 2 ∷ 3 ∷ 4 ∷ 5 ∷ 5 ∷ 6 ∷ 17 ∷ 17 ∷ 7 ∷ 8 ∷ 12 ∷ 13 ∷ 18 ∷ 18 ∷ 18 ∷ 14 ∷ 15 ∷ [])

-- That the verifier accepts the proof, SmallReplies has.
pub record Taken : Type 0 where
  pub test-taken : test key witness ≡ accepted
  pub commit-taken : commit key leaves witness 13 ≡ accepted
  pub hash-taken : hash key leaves H' 13 ≡ accepted
  pub batch-taken : batch key leaves witness χ 12 ≡ accepted
  pub prove-taken : prove key leaves witness H' χ 38 ≡ accepted
