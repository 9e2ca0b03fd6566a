-- The toy example of 01: n = 2, m = 1, τ = 1, t = 1, and the one equation x0·x1 + x0 = y with y = 1.
--   A == bits over GF(256), what coordinates are at degree 8;  s == the sizes in the key's header
--   key_with y == the key with that y;  key, key₀ == with y = 1, with y = 0
--   four_leaves == leaves 0 to 3;  leaves == these and 252 that are 0;  x == the witness;  H', χ == the challenges
--   out n == n bytes to write on
--   proof_with ũ Ṽ q == the proof with that ũ, Ṽ and QS1;  proof == as the prover writes it
--   proof_qs1, proofũ, proofṼ == with QS1 changed to 05, ũ changed to 00, Ṽ changed to 02
--   answer_with k δ p == what verify answers at degree 8 and Δ = δ, lent the key k, H', χ, the leaves opened at δ and
--     the proof p
-- Assumes nothing.
use Rattle.std.specs.Prelude.{List, [], ◌∷◌, ◌++◌, ℕ, ◌*◌, replicate}
use Rattle.protocol.specs.Alphabet.{Alphabet}
use Rattle.protocol.specs.Binary.{bits256}
use Rattle.protocol.specs.Shape.{Shape, shape_of}
use Rattle.protocol.specs.Answers.{Answer}
use Rattle.protocol.specs.Calls.{verify_answer}
use Rattle.protocol.specs.Counting.{opening}
use Rattle.protocol.specs.Check.{eight}

abbrev pub A : Alphabet
A = bits256

-- header; A; b; y
unfoldable pub key_with : ℕ → List ℕ
key_with y =
    0x02 ∷ 0x00 ∷ 0x01 ∷ 0x00 ∷ 0x01 ∷ 0x00 ∷ 0x01 ∷ 0x00
    ∷ 0x02 ∷ 0x00 ∷ 0x00 ∷ 0x00 ∷ 0x02 ∷ 0x00
    ∷ 0x01 ∷ 0x00 ∷ 0x00 ∷ 0x00 ∷ 0x01
    ∷ 0x01 ∷ 0x00 ∷ 0x00 ∷ 0x00 ∷ y ∷ []

abbrev pub key : List ℕ
key = key_with 0x01

abbrev pub key₀ : List ℕ
key₀ = key_with 0x00

abbrev pub s : Shape
s = shape_of key

abbrev pub four_leaves : List ℕ
four_leaves = 0x00 ∷ 0x00 ∷ 0x00 ∷ 0x00 ∷ 0x05 ∷ 0x00 ∷ 0x02 ∷ 0x04 ∷ []

unfoldable pub leaves : List ℕ
leaves = four_leaves ++ replicate (252 * 2) 0x00

abbrev pub x : List ℕ
x = 0x01 ∷ []

abbrev pub H' : List ℕ
H' = 0x05 ∷ 0x00 ∷ []

abbrev pub χ : List ℕ
χ = 0x05 ∷ []

abbrev pub out : ℕ → List ℕ
out n = replicate n 0x00

-- C, which is empty; d; ũ; Ṽ; QS0; QS1
unfoldable pub proof_with : ℕ → ℕ → ℕ → List ℕ
proof_with ũ Ṽ q =
    0x00 ∷ 0x00 ∷ 0x00 ∷ 0x00
    ∷ 0x01 ∷ 0x00 ∷ 0x00 ∷ 0x00 ∷ 0x02
    ∷ 0x01 ∷ 0x00 ∷ 0x00 ∷ 0x00 ∷ ũ
    ∷ 0x01 ∷ 0x00 ∷ 0x00 ∷ 0x00 ∷ Ṽ
    ∷ 0x01 ∷ 0x00 ∷ 0x00 ∷ 0x00 ∷ 0x1C
    ∷ 0x01 ∷ 0x00 ∷ 0x00 ∷ 0x00 ∷ q ∷ []

abbrev pub proof : List ℕ
proof = proof_with 0x01 0x03 0x04

abbrev pub proof_qs1 : List ℕ
proof_qs1 = proof_with 0x01 0x03 0x05

abbrev pub proofũ : List ℕ
proofũ = proof_with 0x00 0x03 0x04

abbrev pub proofṼ : List ℕ
proofṼ = proof_with 0x01 0x02 0x04

abbrev pub answer_with : List ℕ → ℕ → List ℕ → Answer
answer_with k δ p = verify_answer eight k (δ ∷ []) H' χ (opening A (shape_of k) leaves (δ ∷ [])) p
