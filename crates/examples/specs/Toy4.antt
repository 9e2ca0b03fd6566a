-- 01's toy at degree 4 (request 3): its key, witness and χ, n = 2, m = 1, τ = 1, t = 1, with sixteen leaves of one byte
-- and an H' for k = 6. One table, as 01 has of its toy; proofs/Toy4 computes it.
-- The values are those of tests/reference (its program toy4), made from the papers by other hands.
--   key_with y == the key with that y;  key, key₀ == with y = 1, with y = 0;  s == the sizes in its header
--   leaves, x, H', χ == what is lent;  Δ == one challenge, 03
--   proof_with d ũ Ṽ q₀ q₁ == the proof with that d, ũ, Ṽ, QS0 and QS1;  proof == as the prover writes it
--   sections == the six sections that the prover's rules give
--   answer_at k δ p == what verify answers at degree 4 and Δ = δ, lent the key k, H', χ, the leaves opened at δ and the
--     proof p
--   accepted_at k p == the challenges at which that is accepted, rising;  atΔ p == the answer at Δ = 03
-- Assumes nothing.
use Rattle.std.specs.Prelude.{◌≡◌, cond, List, [], ◌∷◌, ℕ, length}
use Rattle.protocol.specs.Lists.{table, concat}
use Rattle.protocol.specs.Binary.{bits16}
use Rattle.protocol.specs.Setting.{setting}
use Rattle.protocol.specs.Shape.{Shape, shape_of, per_tree, per_opened, k_of, l_of, w_of}
use Rattle.protocol.specs.Sections.{Sections}
use Rattle.protocol.specs.Leaves.{rising}
use Rattle.protocol.specs.Forms.{mask_of}
use Rattle.protocol.specs.Prover.{u, v, sections_of, proof_of}
use Rattle.protocol.specs.Answers.{Answer, accepted, refused, is_accepted}
use Rattle.protocol.specs.Calls.{test_answer, verify_answer}
use Rattle.protocol.specs.Counting.{opening, accepted_count, factor}
use Rattle.protocol.specs.SmallExample.{four}

-- header; A; b; y
unfoldable pub key_with : ℕ → List ℕ
key_with y =
    0x02 ∷ 0x00 ∷ 0x01 ∷ 0x00 ∷ 0x01 ∷ 0x00 ∷ 0x01 ∷ 0x00
    ∷ 0x02 ∷ 0x00 ∷ 0x00 ∷ 0x00 ∷ 0x02 ∷ 0x00
    ∷ 0x01 ∷ 0x00 ∷ 0x00 ∷ 0x00 ∷ 0x01
    ∷ 0x01 ∷ 0x00 ∷ 0x00 ∷ 0x00 ∷ y ∷ []

abbrev pub key : List ℕ
key = key_with 0x01

abbrev pub key₀ : List ℕ
key₀ = key_with 0x00

abbrev pub s : Shape
s = record { n = 2; m = 1; τ = 1; t = 1 }

unfoldable pub leaves : List ℕ
leaves =
    0x00 ∷ 0x00 ∷ 0x00 ∷ 0x25 ∷ 0x00 ∷ 0x00 ∷ 0x00 ∷ 0x00
    ∷ 0x00 ∷ 0x4A ∷ 0x00 ∷ 0x00 ∷ 0x00 ∷ 0x00 ∷ 0x00 ∷ 0x00 ∷ []

abbrev pub x : List ℕ
x = 0x01 ∷ []

abbrev pub H' : List ℕ
H' = 0x2D ∷ []

abbrev pub χ : List ℕ
χ = 0x05 ∷ []

abbrev pub Δ : List ℕ
Δ = 0x03 ∷ []

-- C, which is empty; d; ũ; Ṽ; QS0; QS1
unfoldable pub proof_with : ℕ → ℕ → ℕ → ℕ → ℕ → List ℕ
proof_with d ũ Ṽ q₀ q₁ =
    0x00 ∷ 0x00 ∷ 0x00 ∷ 0x00
    ∷ 0x01 ∷ 0x00 ∷ 0x00 ∷ 0x00 ∷ d
    ∷ 0x01 ∷ 0x00 ∷ 0x00 ∷ 0x00 ∷ ũ
    ∷ 0x01 ∷ 0x00 ∷ 0x00 ∷ 0x00 ∷ Ṽ
    ∷ 0x01 ∷ 0x00 ∷ 0x00 ∷ 0x00 ∷ q₀
    ∷ 0x01 ∷ 0x00 ∷ 0x00 ∷ 0x00 ∷ q₁ ∷ []

abbrev pub proof : List ℕ
proof = proof_with 0x02 0x01 0x03 0x07 0x0F

abbrev pub sections : Sections
sections = sections_of bits16 s leaves key x H' χ

abbrev pub answer_at : List ℕ → ℕ → List ℕ → Answer
answer_at k δ p = verify_answer four k (δ ∷ []) H' χ (opening bits16 s leaves (δ ∷ [])) p

abbrev pub accepted_at : List ℕ → List ℕ → List ℕ
accepted_at k p = concat (table 16 (λ δ. cond (is_accepted (answer_at k δ p)) (δ ∷ []) []))

abbrev pub atΔ : List ℕ → Answer
atΔ p = answer_at key 0x03 p

pub record Toy4 : Type 0 where
  pub header_is : shape_of key ≡ s
  pub k_is : k_of bits16 s ≡ 6
  pub L_is : l_of bits16 s ≡ 7
  pub w_is : w_of bits16 s ≡ 1
  pub tree_is : per_tree bits16 ≡ 16
  pub opened_is : per_opened bits16 ≡ 15
  -- u; v, an element for each coordinate; the masks A*₁, of u, and A*₀, of v
  pub u_is : bits16.pack (l_of bits16 s) (λ c. bits16.symbol_of (u bits16 s leaves 0 c)) ≡ 0x6F ∷ []
  pub v_is : table (l_of bits16 s) (λ c. bits16.K.byte (v bits16 s leaves 0 c)) ≡ 0x03 ∷ 0x09 ∷ 0x03 ∷ 0x09 ∷ 0x00 ∷ 0x03 ∷ 0x09 ∷ []
  pub mask_u : bits16.K.byte (mask_of bits16 s 0 (u bits16 s leaves 0)) ≡ 0x0B
  pub mask-v : bits16.K.byte (mask_of bits16 s 0 (v bits16 s leaves 0)) ≡ 0x09
  pub C_is : sections.C ≡ []
  pub d_is : sections.d ≡ 0x02 ∷ []
  pub ũ_is : sections.ũ ≡ 0x01 ∷ []
  pub Ṽ_is : sections.Ṽ ≡ 0x03 ∷ []
  pub QS0_is : sections.QS0 ≡ 0x07 ∷ []
  pub QS1_is : sections.QS1 ≡ 0x0F ∷ []
  pub proof_is : proof_of bits16 key leaves x H' χ ≡ proof
  pub proof-length : length (proof_of bits16 key leaves x H' χ) ≡ 29
  -- the witness is taken, and with y = 0 refused
  pub test-taken : test_answer four key x ≡ accepted
  pub test-refused : test_answer four key₀ x ≡ refused 11 0
  -- fifteen leaves at Δ = 03
  pub opening_is : opening bits16 s leaves Δ
      ≡ 0x00 ∷ 0x00 ∷ 0x00 ∷ 0x00 ∷ 0x00 ∷ 0x00 ∷ 0x00 ∷ 0x00 ∷ 0x4A ∷ 0x00 ∷ 0x00 ∷ 0x00 ∷ 0x00 ∷ 0x00 ∷ 0x00 ∷ []
  -- the proof: accepted at 03, and at every challenge
  pub proof_at_03 : atΔ proof ≡ accepted
  pub proof-everywhere : accepted_at key proof ≡ rising 0 16
  -- one byte changed: refused at 03, and where it is accepted
  pub d_at_03 : atΔ (proof_with 0x03 0x01 0x03 0x07 0x0F) ≡ refused 15 0
  pub d_accepted : accepted_at key (proof_with 0x03 0x01 0x03 0x07 0x0F) ≡ 0x00 ∷ 0x09 ∷ []
  pub ũ_at_03 : atΔ (proof_with 0x02 0x00 0x03 0x07 0x0F) ≡ refused 14 0
  pub ũ_accepted : accepted_at key (proof_with 0x02 0x00 0x03 0x07 0x0F) ≡ 0x00 ∷ []
  pub Ṽ_at_03 : atΔ (proof_with 0x02 0x01 0x02 0x07 0x0F) ≡ refused 14 0
  pub Ṽ_accepted : accepted_at key (proof_with 0x02 0x01 0x02 0x07 0x0F) ≡ []
  pub QS0_at_03 : atΔ (proof_with 0x02 0x01 0x03 0x06 0x0F) ≡ refused 15 0
  pub QS0-accepted : accepted_at key (proof_with 0x02 0x01 0x03 0x06 0x0F) ≡ []
  pub QS1_at_03 : atΔ (proof_with 0x02 0x01 0x03 0x07 0x0E) ≡ refused 15 0
  pub QS1-accepted : accepted_at key (proof_with 0x02 0x01 0x03 0x07 0x0E) ≡ 0x00 ∷ []
  -- with y = 0 the doctored proof, QS1 = 0E: accepted at two challenges and no other; the same with QS1 = 0D
  pub forged_accepted : accepted_at key₀ (proof_with 0x02 0x01 0x03 0x07 0x0E) ≡ 0x00 ∷ 0x0B ∷ []
  pub forged_count : accepted_count four key₀ leaves H' χ (proof_with 0x02 0x01 0x03 0x07 0x0E) ≡ 2
  pub forged_factor : factor bits16 key₀ leaves H' χ (proof_with 0x02 0x01 0x03 0x07 0x0E) 0 ≡ 2
  pub forged_again : accepted_at key₀ (proof_with 0x02 0x01 0x03 0x07 0x0D) ≡ 0x00 ∷ 0x05 ∷ []
  -- "Each factor is 0, 1, 2 or 256", where 256 is now 16: the other three
  pub factor-none : factor bits16 key leaves H' χ (proof_with 0x02 0x01 0x02 0x07 0x0F) 0 ≡ 0
  pub factor-one : factor bits16 key leaves H' χ (proof_with 0x02 0x01 0x03 0x07 0x0E) 0 ≡ 1
  pub factor-full : factor bits16 key leaves H' χ proof 0 ≡ 16
  -- degree 5
  pub degree-tested : test_answer (setting 5) key x ≡ refused 16 0
  pub degree_verified : verify_answer (setting 5) key Δ H' χ (opening bits16 s leaves Δ) proof ≡ refused 16 0
  -- the byte 10, which is no element of GF(16), in χ, Δ, Ṽ, QS0 and QS1
  pub χ_no_element : verify_answer four key Δ H' (0x10 ∷ []) (opening bits16 s leaves Δ) proof ≡ refused 17 0
  pub Δ_no_element : verify_answer four key (0x10 ∷ []) H' χ (opening bits16 s leaves Δ) proof ≡ refused 17 0
  pub Ṽ_no_element : atΔ (proof_with 0x02 0x01 0x10 0x07 0x0F) ≡ refused 18 0
  pub QS0_no_element : atΔ (proof_with 0x02 0x01 0x03 0x10 0x0F) ≡ refused 18 0
  pub QS1_no_element : atΔ (proof_with 0x02 0x01 0x03 0x07 0x10) ≡ refused 18 0
