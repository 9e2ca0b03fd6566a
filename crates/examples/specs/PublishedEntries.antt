-- The entries that 01 marks (P), in one table, of the definitions that the contracts cite. 01's words stand above each;
-- proofs/PublishedEntries proves it.
--   sections == the six sections that the prover's rules give for the toy;  PublishedEntries == the table
-- Assumes nothing.
use Rattle.std.specs.Prelude.{◌≡◌, ◌||◌, [], ◌∷◌, ℕ, ◌<◌, eqb, length}
use Rattle.algebra.specs.Coded.{mul_byte}
use Rattle.galois.specs.Gf256.{gf256}
use Rattle.protocol.specs.Lists.{table}
use Rattle.protocol.specs.Shape.{shape_of, l_of}
use Rattle.protocol.specs.Sections.{Sections}
use Rattle.protocol.specs.Prover.{u, v, sections_of, proof_of}
use Rattle.protocol.specs.Answers.{accepted, refused, is_accepted}
use Rattle.protocol.specs.Questions.{fails}
use Rattle.protocol.specs.Calls.{test_answer, commit_answer, batch_answer, prove_answer}
use Rattle.protocol.specs.Check.{eight}
use Rattle.examples.specs.Toy.{A, s, key, key₀, leaves, x, H', χ, out, proof, proof_qs1, proofũ, answer_with}

abbrev pub sections : Sections
sections = sections_of A s leaves key x H' χ

pub record PublishedEntries : Type 0 where
  -- "57·83 = C1; 57·13 = FE (FIPS 197); 05·52 = 01."
  pub product_57_83 : mul_byte gf256 0x57 0x83 ≡ 0xC1
  pub product_57_13 : mul_byte gf256 0x57 0x13 ≡ 0xFE
  pub product_05_52 : mul_byte gf256 0x05 0x52 ≡ 0x01
  -- "u is 07 04; v is 02, 03, 02 at 0..2, 03 at 10, else 0."
  pub u_is : A.pack (l_of A s) (λ c. A.symbol_of (u A s leaves 0 c)) ≡ 0x07 ∷ 0x04 ∷ []
  pub v_is : table (l_of A s) (λ c. A.K.byte (v A s leaves 0 c)) ≡ 0x02 ∷ 0x03 ∷ 0x02 ∷ 0x00 ∷ 0x00 ∷ 0x00 ∷ 0x00 ∷ 0x00 ∷ 0x00 ∷ 0x00 ∷ 0x03 ∷ []
  -- "d = 02, ũ = 01, Ṽ = 03; QS0 = 1C, QS1 = 04. Proof: 29 bytes."
  pub C_is : sections.C ≡ []
  pub d_is : sections.d ≡ 0x02 ∷ []
  pub ũ_is : sections.ũ ≡ 0x01 ∷ []
  pub Ṽ_is : sections.Ṽ ≡ 0x03 ∷ []
  pub QS0_is : sections.QS0 ≡ 0x1C ∷ []
  pub QS1_is : sections.QS1 ≡ 0x04 ∷ []
  pub proof_is : proof_of A key leaves x H' χ ≡ proof
  pub proof-length : length (proof_of A key leaves x H' χ) ≡ 29
  -- "Δ = 02 accepted."
  pub proof_at_02 : answer_with key 0x02 proof ≡ accepted
  -- "QS1 changed to 05: refused 15 place 0 at Δ = 02, accepted at 00."
  pub QS1_changed_at_02 : answer_with key 0x02 proof_qs1 ≡ refused 15 0
  pub QS1_changed_at_00 : answer_with key 0x00 proof_qs1 ≡ accepted
  -- "ũ changed to 00: refused 14 place 0 at 02."
  pub ũ_changed_at_02 : answer_with key 0x02 proofũ ≡ refused 14 0
  -- "y = 0: witness refused 11 place 0;" equation 0 fails.
  pub equation_0_fails : fails A (shape_of key₀) key₀ x 0
  pub test-refused : test_answer eight key₀ x ≡ refused 11 0
  pub commit-refused : commit_answer eight key₀ leaves x (out 9) ≡ refused 11 0
  pub batch-refused : batch_answer eight key₀ leaves x χ (out 10) ≡ refused 11 0
  pub prove-refused : prove_answer eight key₀ leaves x H' χ (out 29) ≡ refused 11 0
  -- "with QS1 = 05, accepted at Δ = 00 and 52 only."
  pub forged_at_00_and_52 : (δ : ℕ) → δ < 256 → is_accepted (answer_with key₀ δ proof_qs1) ≡ (eqb δ 0x00 || eqb δ 0x52)
