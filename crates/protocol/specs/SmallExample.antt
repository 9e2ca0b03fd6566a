-- An example over GF(16), n = 9, m = 2, τ = 2, t = 2, and what the definitions must give for it.
-- proofs/SmallExample computes each statement.
-- The theorems leave the layout open: with χ(e, i) read at i, or every A_i read in matrix 0, all of them still hold.
-- These bytes fix it.
-- An edit of the definitions re-proves this crate, so what is slow to compute stands above it, in the crate `examples`.
-- The data and the expected results are sitting 0 of the vectors masks-degree4.rsp (tests/reference), made from the
-- papers by other hands.
--   four == the setting of degree 4;  changed str i x == str with byte i xor x
--   sizes == the sizes that the key's header has
--   key, witness, leaves, H', χ, Δ == what is lent;  proof, opened == the proof and the opened leaves that are expected
--   row s key i ρ == row ρ of A_i as a key of sizes s has it;  linear s key i == b_i;  constants s key == y
--   uneven == sizes that all differ;  columns s χ == the columns of χ at sizes s, one for each repetition
--   reply p == the word of the verifier's answer to the proof p
-- Assumes nothing.
use Rattle.std.specs.Prelude.{◌≡◌, List, [], ◌∷◌, ℕ, get_or, set}
use Rattle.std.specs.Int.Bits.{bit_xor}
use Rattle.protocol.specs.Lists.{table}
use Rattle.protocol.specs.Binary.{bits16}
use Rattle.protocol.specs.Setting.{Setting, setting}
use Rattle.protocol.specs.Shape.{Shape, shape_of}
use Rattle.protocol.specs.Key.{a_sym, b_sym, y_sym}
use Rattle.protocol.specs.Forms.{χAt}
use Rattle.protocol.specs.Prover.{c_section, d_section, ũSection, ṼSection, qs0_section, qs1_section, proof_of}
use Rattle.protocol.specs.Answers.{accepted, word}
use Rattle.protocol.specs.Calls.{verify_answer}
use Rattle.protocol.specs.Counting.{opening, candidate_bytes}

abbrev pub four : Setting
four = setting 4

abbrev pub changed : List ℕ → ℕ → ℕ → List ℕ
changed str i x = set str i (bit_xor (get_or str i 0) x)

abbrev pub sizes : Shape
sizes = record { n = 9; m = 2; τ = 2; t = 2 }

unfoldable pub key : List ℕ
key =
    -- n, m, τ, t
    0x09 ∷ 0x00 ∷ 0x02 ∷ 0x00 ∷ 0x02 ∷ 0x00 ∷ 0x02 ∷ 0x00
    -- A: matrix by matrix, a row of two bytes each
    ∷ 0x24 ∷ 0x00 ∷ 0x00 ∷ 0x00
    ∷ 0xFF ∷ 0x00 ∷ 0x28 ∷ 0x01 ∷ 0xC3 ∷ 0x01 ∷ 0xF2 ∷ 0x00 ∷ 0x7D ∷ 0x01 ∷ 0xED ∷ 0x01 ∷ 0xFE ∷ 0x00 ∷ 0xB4 ∷ 0x01 ∷ 0xF4 ∷ 0x00
    ∷ 0xDB ∷ 0x00 ∷ 0x68 ∷ 0x00 ∷ 0xB9 ∷ 0x00 ∷ 0xF5 ∷ 0x01 ∷ 0x2A ∷ 0x00 ∷ 0xAC ∷ 0x01 ∷ 0x4A ∷ 0x00 ∷ 0xE8 ∷ 0x00 ∷ 0x83 ∷ 0x00
    -- b
    ∷ 0x04 ∷ 0x00 ∷ 0x00 ∷ 0x00 ∷ 0xAC ∷ 0x01 ∷ 0x88 ∷ 0x01
    -- y
    ∷ 0x01 ∷ 0x00 ∷ 0x00 ∷ 0x00 ∷ 0x03 ∷ []

unfoldable pub witness : List ℕ
witness = 0xB1 ∷ 0x00 ∷ []

unfoldable pub leaves : List ℕ
leaves =
    0xC2 ∷ 0xD2 ∷ 0x01 ∷ 0xD4 ∷ 0xA4 ∷ 0x01 ∷ 0xCC ∷ 0x82 ∷ 0x01 ∷ 0x8B ∷ 0xF9 ∷ 0x02 ∷ 0x14 ∷ 0x6D ∷ 0x05 ∷ 0x98 ∷ 0x8A ∷ 0x01 ∷ 0x8D ∷ 0xE2 ∷ 0x06 ∷ 0xEC ∷ 0xA1 ∷ 0x04
    ∷ 0x58 ∷ 0x70 ∷ 0x01 ∷ 0x7F ∷ 0xBE ∷ 0x06 ∷ 0x3B ∷ 0xEC ∷ 0x02 ∷ 0xA8 ∷ 0xA9 ∷ 0x05 ∷ 0xFA ∷ 0xFD ∷ 0x05 ∷ 0x07 ∷ 0x61 ∷ 0x03 ∷ 0x5A ∷ 0xE3 ∷ 0x05 ∷ 0x2E ∷ 0xCE ∷ 0x03
    ∷ 0x21 ∷ 0x3F ∷ 0x00 ∷ 0xCB ∷ 0x40 ∷ 0x03 ∷ 0x28 ∷ 0xA0 ∷ 0x04 ∷ 0x3A ∷ 0x76 ∷ 0x02 ∷ 0x4E ∷ 0x63 ∷ 0x00 ∷ 0x1A ∷ 0x84 ∷ 0x02 ∷ 0x72 ∷ 0x6F ∷ 0x00 ∷ 0x27 ∷ 0x23 ∷ 0x01
    ∷ 0x83 ∷ 0x09 ∷ 0x04 ∷ 0xC3 ∷ 0x00 ∷ 0x01 ∷ 0xC6 ∷ 0x0C ∷ 0x07 ∷ 0x9A ∷ 0xB4 ∷ 0x05 ∷ 0xF9 ∷ 0x22 ∷ 0x03 ∷ 0xB5 ∷ 0x3D ∷ 0x00 ∷ 0x72 ∷ 0x7D ∷ 0x06 ∷ 0xA3 ∷ 0x7E ∷ 0x02 ∷ []

unfoldable pub H' : List ℕ
H' = 0xF2 ∷ 0x33 ∷ 0x00 ∷ 0x34 ∷ 0xF3 ∷ 0x00 ∷ []

unfoldable pub χ : List ℕ
χ = 0x0F ∷ 0x03 ∷ 0x06 ∷ 0x09 ∷ []

unfoldable pub Δ : List ℕ
Δ = 0x04 ∷ 0x0B ∷ []

unfoldable pub proof : List ℕ
proof =
    0x03 ∷ 0x00 ∷ 0x00 ∷ 0x00 ∷ 0xF9 ∷ 0x3C ∷ 0x03
    ∷ 0x02 ∷ 0x00 ∷ 0x00 ∷ 0x00 ∷ 0x30 ∷ 0x01
    ∷ 0x01 ∷ 0x00 ∷ 0x00 ∷ 0x00 ∷ 0x02
    ∷ 0x04 ∷ 0x00 ∷ 0x00 ∷ 0x00 ∷ 0x0E ∷ 0x04 ∷ 0x0A ∷ 0x08
    ∷ 0x02 ∷ 0x00 ∷ 0x00 ∷ 0x00 ∷ 0x08 ∷ 0x03
    ∷ 0x02 ∷ 0x00 ∷ 0x00 ∷ 0x00 ∷ 0x0F ∷ 0x0C ∷ []

unfoldable pub opened : List ℕ
opened =
    0xC2 ∷ 0xD2 ∷ 0x01 ∷ 0xD4 ∷ 0xA4 ∷ 0x01 ∷ 0xCC ∷ 0x82 ∷ 0x01 ∷ 0x8B ∷ 0xF9 ∷ 0x02 ∷ 0x98 ∷ 0x8A ∷ 0x01 ∷ 0x8D ∷ 0xE2 ∷ 0x06 ∷ 0xEC ∷ 0xA1 ∷ 0x04 ∷ 0x58 ∷ 0x70 ∷ 0x01
    ∷ 0x7F ∷ 0xBE ∷ 0x06 ∷ 0x3B ∷ 0xEC ∷ 0x02 ∷ 0xA8 ∷ 0xA9 ∷ 0x05 ∷ 0xFA ∷ 0xFD ∷ 0x05 ∷ 0x07 ∷ 0x61 ∷ 0x03 ∷ 0x5A ∷ 0xE3 ∷ 0x05 ∷ 0x2E ∷ 0xCE ∷ 0x03 ∷ 0x21 ∷ 0x3F ∷ 0x00
    ∷ 0xCB ∷ 0x40 ∷ 0x03 ∷ 0x28 ∷ 0xA0 ∷ 0x04 ∷ 0x3A ∷ 0x76 ∷ 0x02 ∷ 0x4E ∷ 0x63 ∷ 0x00 ∷ 0x1A ∷ 0x84 ∷ 0x02 ∷ 0x72 ∷ 0x6F ∷ 0x00 ∷ 0x27 ∷ 0x23 ∷ 0x01 ∷ 0x83 ∷ 0x09 ∷ 0x04
    ∷ 0xC3 ∷ 0x00 ∷ 0x01 ∷ 0xC6 ∷ 0x0C ∷ 0x07 ∷ 0xF9 ∷ 0x22 ∷ 0x03 ∷ 0xB5 ∷ 0x3D ∷ 0x00 ∷ 0x72 ∷ 0x7D ∷ 0x06 ∷ 0xA3 ∷ 0x7E ∷ 0x02 ∷ []

abbrev pub row : Shape → List ℕ → ℕ → ℕ → List ℕ
row s key i ρ = table s.n (λ c. bits16.K.byte (a_sym bits16 s key i ρ c))

abbrev pub linear : Shape → List ℕ → ℕ → List ℕ
linear s key i = table s.n (λ c. bits16.K.byte (b_sym bits16 s key i c))

abbrev pub constants : Shape → List ℕ → List ℕ
constants s key = table s.m (λ i. bits16.K.byte (y_sym bits16 s key i))

abbrev pub uneven : Shape
uneven = record { n = 9; m = 3; τ = 2; t = 5 }

abbrev pub columns : Shape → List ℕ → List (List ℕ)
columns s χ = table s.τ (λ e. table s.m (λ i. bits16.K.byte (χAt bits16 s χ e i)))

-- The key read back, beside the bits of its bytes. A and its transpose give the same forms fᵀA·f, so that no answer
-- tells them apart.
pub record SmallKey : Type 0 where
  pub row_1_2 : row sizes key 1 2 ≡ 1 ∷ 0 ∷ 0 ∷ 1 ∷ 1 ∷ 1 ∷ 0 ∷ 1 ∷ 0 ∷ []
  pub linear_1 : linear sizes key 1 ≡ 0 ∷ 0 ∷ 0 ∷ 1 ∷ 0 ∷ 0 ∷ 0 ∷ 1 ∷ 1 ∷ []
  pub constants_are : constants sizes key ≡ 1 ∷ 1 ∷ []
  -- the lowest bit of y's byte is y_0
  pub constants-changed : constants sizes (changed key 60 1) ≡ 0 ∷ 1 ∷ []

-- The columns of χ at sizes that all differ, so that none can stand for m: prover and verifier read them alike, and no
-- theorem tells.
pub record SmallColumns : Type 0 where
  pub columns_are : columns uneven (1 ∷ 2 ∷ 3 ∷ 4 ∷ 5 ∷ 6 ∷ []) ≡ (1 ∷ 2 ∷ 3 ∷ []) ∷ (4 ∷ 5 ∷ 6 ∷ []) ∷ []

-- The prover's bytes, section by section and whole.
pub record SmallBytes : Type 0 where
  pub header_is : shape_of key ≡ sizes
  pub C_is : c_section bits16 sizes leaves ≡ 0xF9 ∷ 0x3C ∷ 0x03 ∷ []
  pub d_is : d_section bits16 sizes leaves witness ≡ 0x30 ∷ 0x01 ∷ []
  pub ũ_is : ũSection bits16 sizes leaves H' ≡ 0x02 ∷ []
  pub Ṽ_is : ṼSection bits16 sizes leaves H' ≡ 0x0E ∷ 0x04 ∷ 0x0A ∷ 0x08 ∷ []
  pub QS0_is : qs0_section bits16 sizes leaves key χ ≡ 0x08 ∷ 0x03 ∷ []
  pub QS1_is : qs1_section bits16 sizes leaves key witness χ ≡ 0x0F ∷ 0x0C ∷ []

abbrev pub SmallProof : Type 0
SmallProof = proof_of bits16 key leaves witness H' χ ≡ proof

abbrev pub reply : List ℕ → ℕ
reply p = word (verify_answer four key Δ H' χ opened p)

-- The verifier's answers at Δ: to the proof, and to proofs with bytes changed.
pub record SmallReplies : Type 0 where
  pub opening_is : opening bits16 sizes leaves Δ ≡ opened
  pub accepts : verify_answer four key Δ H' χ opened proof ≡ accepted
  -- row 0 of Ṽ in both repetitions: the first is named
  pub first-named : reply (changed (changed proof 22 1) 24 1) ≡ 917504
  -- QS0 in repetition 0, Ṽ in repetition 1: 14 is asked of every repetition before 15 is of any
  pub fourteen-first : reply (changed (changed proof 30 1) 24 1) ≡ 917505
  -- the candidate witness of repetition 1: that of an honest proof is the witness, and a bit of C changed changes that
  -- bit
  pub candidate_is : candidate_bytes bits16 key leaves proof 1 ≡ witness
  pub candidate-changed : candidate_bytes bits16 key leaves (changed proof 4 1) 1 ≡ changed witness 0 1
