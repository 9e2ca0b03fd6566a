-- A practice key, one with no equations (request 12), n = 2, τ = 1, t = 1, at degree 4; and what the definitions must
-- give for it.
-- proofs/PracticeKey computes each statement. How many challenges pass, the crate `examples` has.
-- The proof's bytes and the answers are those of the rendering (tests/reference), made from the papers by other hands.
--   key, x, leaves, H' == what is lent, and no byte of χ;  proof == the proof that is expected
--   reply δ p == the verifier's answer to the proof p, the leaves opened at δ
-- Assumes nothing.
use Rattle.std.specs.Prelude.{◌≡◌, List, [], ◌∷◌, ℕ, length, replicate}
use Rattle.protocol.specs.Binary.{bits16}
use Rattle.protocol.specs.Setting.{setting}
use Rattle.protocol.specs.Shape.{shape_of}
use Rattle.protocol.specs.Prover.{proof_of}
use Rattle.protocol.specs.Answers.{Answer, accepted, refused}
use Rattle.protocol.specs.Calls.{test_answer, batch_answer, prove_answer, verify_answer}
use Rattle.protocol.specs.Counting.{opening}
use Rattle.protocol.specs.SmallExample.{four, changed}

unfoldable pub key : List ℕ
key =
    -- n, m, τ, t, and the counts of A, b and y
    0x02 ∷ 0x00 ∷ 0x00 ∷ 0x00 ∷ 0x01 ∷ 0x00 ∷ 0x01 ∷ 0x00 ∷ replicate 12 0x00

abbrev pub x : List ℕ
x = 0x01 ∷ []

unfoldable pub leaves : List ℕ
leaves = 0x00 ∷ 0x00 ∷ 0x00 ∷ 0x25 ∷ 0x00 ∷ 0x00 ∷ 0x00 ∷ 0x00 ∷ 0x00 ∷ 0x4A ∷ 0x00 ∷ 0x00 ∷ 0x00 ∷ 0x00 ∷ 0x00 ∷ 0x00 ∷ []

abbrev pub H' : List ℕ
H' = 0x2D ∷ []

unfoldable pub proof : List ℕ
proof =
    -- C, d, ũ, Ṽ, QS0, QS1
    0x00 ∷ 0x00 ∷ 0x00 ∷ 0x00
    ∷ 0x01 ∷ 0x00 ∷ 0x00 ∷ 0x00 ∷ 0x02
    ∷ 0x01 ∷ 0x00 ∷ 0x00 ∷ 0x00 ∷ 0x01
    ∷ 0x01 ∷ 0x00 ∷ 0x00 ∷ 0x00 ∷ 0x03
    ∷ 0x01 ∷ 0x00 ∷ 0x00 ∷ 0x00 ∷ 0x09
    ∷ 0x01 ∷ 0x00 ∷ 0x00 ∷ 0x00 ∷ 0x0B ∷ []

abbrev pub reply : ℕ → List ℕ → Answer
reply δ p = verify_answer four key (δ ∷ []) H' [] (opening bits16 (shape_of key) leaves (δ ∷ [])) p

pub record PracticeKey : Type 0 where
  pub key-length : length key ≡ 20
  pub proof_is : proof_of bits16 key leaves x H' [] ≡ proof
  -- any witness fits, at either degree
  pub any-fits : test_answer four key (0x00 ∷ []) ∷ test_answer four key (0x01 ∷ []) ∷ test_answer four key (0x02 ∷ []) ∷ test_answer four key (0x03 ∷ [])
      ∷ test_answer (setting 8) key (0x03 ∷ []) ∷ []
      ≡ accepted ∷ accepted ∷ accepted ∷ accepted ∷ accepted ∷ []
  pub prove-taken : prove_answer four key leaves x H' [] (replicate 29 0x00) ≡ accepted
  pub verify-taken : reply 0x03 proof ≡ accepted
  pub one-byte-batch : batch_answer four key leaves x (0x00 ∷ []) (replicate 10 0x00) ≡ refused 5 0
  pub one-byte-prove : prove_answer four key leaves x H' (0x00 ∷ []) (replicate 29 0x00) ≡ refused 5 0
  pub one-byte-verify : verify_answer four key (0x03 ∷ []) H' (0x00 ∷ []) (opening bits16 (shape_of key) leaves (0x03 ∷ [])) proof ≡ refused 5 0
  pub no_variables : test_answer four (changed key 0 0x02) [] ≡ refused 2 0
