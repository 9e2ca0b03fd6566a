-- Where a no begins: at the degrees, at the sizes, at spare bits, exact lengths and elements, and where two questions
-- get a no; and which equation 11 names.
-- proofs/Edges computes each statement.
-- Key, leaves and proof are those of SmallExample with bytes changed. A spare bit that is set is the first one of the
-- last row (A-spare-set), the last one of the first row (A-first-row), or the last one of the only row (y-last).
-- That each call is refused by each of its questions, Refusals has.
--   allowed n m τ t == the limits admit these sizes;  toy == the sizes of 01's toy;  largest == the most of each
-- Assumes nothing.
use Rattle.std.specs.Prelude.{◌≡◌, Bool, true, false, [], ◌∷◌, ◌++◌, ℕ, replicate, take}
use Rattle.protocol.specs.Frames.{num2, num4, count4}
use Rattle.protocol.specs.Reader.{between, missing, section_at}
use Rattle.protocol.specs.Alphabet.{elements_in}
use Rattle.protocol.specs.Binary.{bits256, bits16}
use Rattle.protocol.specs.Setting.{setting, served, alphabet_of}
use Rattle.protocol.specs.Shape.{Shape, limits, per_tree, per_opened, mask_at, k_of, l_of, w_of}
use Rattle.protocol.specs.Key.{key_exact, key_spare}
use Rattle.protocol.specs.Sections.{sections_in}
use Rattle.protocol.specs.Answers.{accepted, refused, word}
use Rattle.protocol.specs.Questions.{h_spare, leaves_spare, witness_form, solves, proof_spare}
use Rattle.protocol.specs.Calls.{test_answer, hash_answer, batch_answer, prove_answer, verify_answer}
use Rattle.protocol.specs.SmallExample.{four, changed, sizes, key, witness, leaves, H', χ, Δ, proof, opened}

abbrev pub allowed : ℕ → ℕ → ℕ → ℕ → Bool
allowed n m τ t = limits (record { n = n; m = m; τ = τ; t = t })

abbrev pub toy : Shape
toy = record { n = 2; m = 1; τ = 1; t = 1 }

abbrev pub largest : Shape
largest = record { n = 320; m = 320; τ = 48; t = 288 }

-- The degrees that are served, and some that are not: among them 260, whose low byte is 4. At one that is served the
-- questions go on.
pub record Degrees : Type 0 where
  pub eight-served : served (setting 8) ≡ true
  pub four-served : served (setting 4) ≡ true
  pub eight_goes_on : test_answer (setting 8) [] witness ≡ refused 1 0
  pub four_goes_on : test_answer (setting 4) [] witness ≡ refused 1 0
  pub at_0 : test_answer (setting 0) key witness ≡ refused 16 0
  pub at_3 : test_answer (setting 3) key witness ≡ refused 16 0
  pub at_5 : test_answer (setting 5) key witness ≡ refused 16 0
  pub at_12 : test_answer (setting 12) key witness ≡ refused 16 0
  pub at_260 : test_answer (setting 260) key witness ≡ refused 16 0

-- Which bytes write an element: 00 to 0F at degree 4, and every byte at degree 8. Each byte is asked.
pub record Elements : Type 0 where
  pub last_element : elements_in (alphabet_of (setting 4)) (0x0F ∷ []) ≡ true
  pub first_no_element : elements_in (alphabet_of (setting 4)) (0x10 ∷ []) ≡ false
  pub first-asked : elements_in (alphabet_of (setting 4)) (0x10 ∷ 0x00 ∷ []) ≡ false
  pub last-asked : elements_in (alphabet_of (setting 4)) (0x00 ∷ 0x80 ∷ []) ≡ false
  pub every_byte : elements_in (alphabet_of (setting 8)) (0xFF ∷ []) ≡ true
  -- χ, whose first byte is 0F: that byte made 10
  pub χ_first : prove_answer four key leaves witness H' (changed χ 0 0x1F) [] ≡ refused 17 0
  -- the first bytes of Δ, Ṽ, QS0 and QS1 made 10
  pub Δ_first : verify_answer four key (changed Δ 0 0x14) H' χ opened proof ≡ refused 17 0
  pub Ṽ_first : verify_answer four key Δ H' χ opened (changed proof 22 0x1E) ≡ refused 18 0
  pub QS0-first : verify_answer four key Δ H' χ opened (changed proof 30 0x18) ≡ refused 18 0
  pub QS1-first : verify_answer four key Δ H' χ opened (changed proof 36 0x1F) ≡ refused 18 0

pub record Limits : Type 0 where
  pub least : allowed 1 0 1 1 ≡ true
  pub one_each : allowed 1 1 1 1 ≡ true
  pub most : allowed 320 320 48 288 ≡ true
  pub n_none : allowed 0 1 1 1 ≡ false
  pub τ_none : allowed 1 1 0 1 ≡ false
  pub t_none : allowed 1 1 1 0 ≡ false
  pub n_over : allowed 321 320 48 288 ≡ false
  pub m_over : allowed 320 321 48 288 ≡ false
  pub τ_over : allowed 320 320 49 288 ≡ false
  pub t_over : allowed 320 320 48 289 ≡ false

pub record Forms : Type 0 where
  pub key-exact : key_exact bits16 sizes key ≡ true
  pub count_wrong : key_exact bits16 sizes (changed key 8 0x01) ≡ false
  pub count-second : key_exact bits16 sizes (changed key 9 0x01) ≡ false
  pub count_third : key_exact bits16 sizes (changed key 10 0x01) ≡ false
  pub count_fourth : key_exact bits16 sizes (changed key 11 0x01) ≡ false
  pub key-long : key_exact bits16 sizes (key ++ (0x00 ∷ [])) ≡ false
  pub key-spare : key_spare bits16 sizes key ≡ true
  pub A-spare-set : key_spare bits16 sizes (changed key 47 0x02) ≡ false
  pub A-first-row : key_spare bits16 sizes (changed key 13 0x80) ≡ false
  pub b_spare_set : key_spare bits16 sizes (changed key 55 0x02) ≡ false
  pub b_first_row : key_spare bits16 sizes (changed key 53 0x80) ≡ false
  pub y_spare_set : key_spare bits16 sizes (changed key 60 0x04) ≡ false
  pub y_last : key_spare bits16 sizes (changed key 60 0x80) ≡ false
  pub H_spare : h_spare bits16 sizes H' ≡ true
  pub H_spare_set : h_spare bits16 sizes (changed H' 5 0x02) ≡ false
  pub H_first_row : h_spare bits16 sizes (changed H' 2 0x80) ≡ false
  pub leaves-spare : leaves_spare bits16 sizes (per_tree bits16) leaves ≡ true
  pub leaves-spare-set : leaves_spare bits16 sizes (per_tree bits16) (changed leaves 95 0x08) ≡ false
  pub leaves-first-row : leaves_spare bits16 sizes (per_tree bits16) (changed leaves 2 0x80) ≡ false
  pub opened-spare : leaves_spare bits16 sizes (per_opened bits16) opened ≡ true
  pub opened-spare-set : leaves_spare bits16 sizes (per_opened bits16) (changed opened 89 0x08) ≡ false
  pub opened-first-row : leaves_spare bits16 sizes (per_opened bits16) (changed opened 2 0x80) ≡ false
  pub witness-form : witness_form bits16 sizes witness ≡ true
  pub witness-spare-set : witness_form bits16 sizes (changed witness 1 0x02) ≡ false
  pub witness-long : witness_form bits16 sizes (witness ++ (0x00 ∷ [])) ≡ false
  pub witness-short : witness_form bits16 sizes (take 1 witness) ≡ false
  pub witness-last : witness_form bits16 sizes (changed witness 1 0x80) ≡ false
  pub proof-spare : proof_spare bits16 sizes (sections_in bits16 sizes proof) ≡ true
  pub C-spare-set : proof_spare bits16 sizes (sections_in bits16 sizes (changed proof 6 0x08)) ≡ false
  pub C-last : proof_spare bits16 sizes (sections_in bits16 sizes (changed proof 6 0x80)) ≡ false
  pub d_spare_set : proof_spare bits16 sizes (sections_in bits16 sizes (changed proof 12 0x02)) ≡ false
  pub d_last : proof_spare bits16 sizes (sections_in bits16 sizes (changed proof 12 0x80)) ≡ false
  pub ũ_spare_set : proof_spare bits16 sizes (sections_in bits16 sizes (changed proof 17 0x04)) ≡ false
  pub ũ_last : proof_spare bits16 sizes (sections_in bits16 sizes (changed proof 17 0x80)) ≡ false
  pub solved : solves bits16 sizes key witness ≡ true
  pub not-solved : solves bits16 sizes key (changed witness 0 0x01) ≡ false

-- Numbers in bytes, lowest first.
pub record Numbers : Type 0 where
  pub num2_is : num2 (0x01 ∷ 0x02 ∷ []) 0 ≡ 0x0201
  pub num4_is : num4 (0x01 ∷ 0x02 ∷ 0x03 ∷ 0x04 ∷ []) 0 ≡ 0x04030201
  pub count4_is : count4 0x04030201 ≡ 0x01 ∷ 0x02 ∷ 0x03 ∷ 0x04 ∷ []

-- A key without a whole header; a size whose high byte is set; a count whose third byte is set;
-- a byte too many or too few.
pub record Lengths : Type 0 where
  pub header-short : test_answer four (take 7 key) witness ≡ refused 1 0
  pub header-alone : test_answer four (take 8 key) witness ≡ refused 3 0
  pub m_high : test_answer four (changed key 3 0x02) witness ≡ refused 2 0
  pub τ_high : test_answer four (changed key 5 0x01) witness ≡ refused 2 0
  pub t_high : test_answer four (changed key 7 0x02) witness ≡ refused 2 0
  pub Δ_long : verify_answer four key (Δ ++ (0x00 ∷ [])) H' χ opened proof ≡ refused 5 0
  pub Δ_short : verify_answer four key (take 1 Δ) H' χ opened proof ≡ refused 5 0
  pub H_long : verify_answer four key Δ (H' ++ (0x00 ∷ [])) χ opened proof ≡ refused 5 0
  pub H_short : verify_answer four key Δ (take 5 H') χ opened proof ≡ refused 5 0
  pub χ_short : verify_answer four key Δ H' (take 3 χ) opened proof ≡ refused 5 0
  pub count_third : verify_answer four key Δ H' χ opened (changed proof 2 0x01) ≡ refused 12 0

-- Two questions get a no, and the first in 01's order refuses; 16, 17 and 18 stand where request 3 puts them.
pub record Order : Type 0 where
  pub two-three : verify_answer four (changed key 1 0x02) Δ H' χ opened proof ≡ refused 2 0
  pub three-four : verify_answer four (changed (changed key 8 0x01) 47 0x02) Δ H' χ opened proof ≡ refused 3 0
  pub five-six : verify_answer four key Δ (changed H' 5 0x02) (χ ++ (0x00 ∷ [])) opened proof ≡ refused 5 0
  pub seven_eight : verify_answer four key Δ H' χ (changed leaves 95 0x08) proof ≡ refused 7 0
  pub twelve_thirteen : verify_answer four key Δ H' χ opened (changed (changed proof 0 0x01) 12 0x02) ≡ refused 12 0
  pub eight_ten : hash_answer four key (changed leaves 95 0x08) H' [] ≡ refused 8 0
  pub nine_ten : prove_answer four key leaves (changed witness 1 0x02) H' χ [] ≡ refused 9 0
  pub ten_eleven : prove_answer four key leaves (changed witness 0 0x01) H' χ [] ≡ refused 10 0
  pub sixteen_one : test_answer (setting 5) [] witness ≡ refused 16 0
  pub sixteen_one_verify : verify_answer (setting 5) [] Δ H' χ opened proof ≡ refused 16 0
  pub five_seventeen : batch_answer four key leaves witness (0x10 ∷ χ) [] ≡ refused 5 0
  pub six_seventeen : prove_answer four key leaves witness (changed H' 5 0x02) (changed χ 3 0x10) [] ≡ refused 6 0
  pub six_seventeen_verify : verify_answer four key (changed Δ 1 0x10) (changed H' 5 0x02) χ opened proof ≡ refused 6 0
  pub seventeen_seven : prove_answer four key [] witness H' (changed χ 3 0x10) [] ≡ refused 17 0
  pub seventeen_seven_batch : batch_answer four key [] witness (changed χ 3 0x10) [] ≡ refused 17 0
  pub seventeen_seven_verify : verify_answer four key (changed Δ 1 0x10) H' χ [] proof ≡ refused 17 0
  pub twelve_eighteen : verify_answer four key Δ H' χ opened (changed proof 25 0x10 ++ (0x00 ∷ [])) ≡ refused 12 0
  pub thirteen_eighteen : verify_answer four key Δ H' χ opened (changed (changed proof 17 0x04) 25 0x10) ≡ refused 13 0
  pub eighteen_fourteen : verify_answer four key Δ H' χ opened (changed (changed proof 22 0x01) 37 0x10) ≡ refused 18 0

-- Refusal 11 names the lowest-numbered equation that fails: of two that fail the first, and the second where only that
-- one fails.
pub record FirstEquation : Type 0 where
  pub both_fail : prove_answer four key leaves (changed witness 0 0x04) H' χ (replicate 38 0x00) ≡ refused 11 0
  pub second-fails : prove_answer four key leaves (changed witness 0 0x01) H' χ (replicate 38 0x00) ≡ refused 11 1

-- 01's numbers, over GF(256), at the sizes of its toy: k, L, w, the leaves of a tree and of an opened one.
-- Of the largest key k, L, w, and where the masks of the repetitions 1 and 47 begin. At degree 4 the leaves of a tree
-- and of an opened one, the mask coordinates of a repetition, and k and the mask of repetition 1 of SmallExample's key.
pub record Derived : Type 0 where
  pub k_is : k_of bits256 toy ≡ 10
  pub L_is : l_of bits256 toy ≡ 11
  pub w_is : w_of bits256 toy ≡ 2
  pub tree_is : per_tree bits256 ≡ 256
  pub opened_is : per_opened bits256 ≡ 255
  pub k_largest : k_of bits256 largest ≡ 704
  pub L-largest : l_of bits256 largest ≡ 992
  pub w_largest : w_of bits256 largest ≡ 124
  pub mask-second : mask_at bits256 largest 1 ≡ 328
  pub mask-last : mask_at bits256 largest 47 ≡ 696
  pub masks_are : (alphabet_of (setting 8)).masks ≡ 8
  pub tree_sixteen : per_tree (alphabet_of (setting 4)) ≡ 16
  pub opened_sixteen : per_opened (alphabet_of (setting 4)) ≡ 15
  pub masks_sixteen : (alphabet_of (setting 4)).masks ≡ 4
  pub k_sixteen : k_of bits16 sizes ≡ 17
  pub mask_sixteen : mask_at bits16 sizes 1 ≡ 13

-- One section of the proof by the count that is found: the first, the last, and one that is cut.
pub record Extents : Type 0 where
  pub first : section_at proof 0 ≡ between 4 7
  pub last : section_at proof 32 ≡ between 36 38
  pub cut : section_at (take 37 proof) 32 ≡ missing
  pub count_cut : section_at (take 35 proof) 32 ≡ missing
  pub at-end : section_at proof 38 ≡ missing
  pub count_third : section_at (changed proof 34 0x01) 32 ≡ missing

-- What C receives.
pub record Words : Type 0 where
  pub accepted_is : word accepted ≡ 0
  pub refused_is : word (refused 14 1) ≡ 917505
