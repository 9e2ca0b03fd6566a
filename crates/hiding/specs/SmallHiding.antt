-- Request 8 in the small example of `protocol`, over GF(16): another solution of its key, and the hidden leaves that
-- make the very same proof with it, at the example's Δ and at Δ = 0. proofs/SmallHiding computes each statement.
--   other == that solution;  Δ₀ == the challenge 0 in both repetitions
--   hidden, hidden₀ == the hidden leaves at Δ and at Δ₀, one of three bytes for each repetition
--   own_hidden == the leaves that the example's prover hides at Δ
--   seen == what the verifier sees
--   keeps Δ h == Keeps of the hidden leaves h at Δ, with the other solution
-- Assumes nothing.
use Rattle.std.specs.Prelude.{◌≡◌, true, false, List, [], ◌∷◌, ℕ, ◌<◌, set}
use Rattle.protocol.specs.Binary.{bits256, bits16}
use Rattle.protocol.specs.Leaves.{leaf_at}
use Rattle.protocol.specs.Prover.{proof_of}
use Rattle.protocol.specs.Questions.{witness_form, solves}
use Rattle.protocol.specs.Counting.{opening}
use Rattle.protocol.specs.SmallExample.{changed, sizes, key, witness, leaves, H', χ, Δ, proof, opened}
use Rattle.hiding.specs.Masks.{mask_sum}
use Rattle.hiding.specs.View.{View, view_of}
use Rattle.hiding.specs.Hidden.{hidden_form, HiddenForm, hidden_of, with_hidden}
use Rattle.hiding.specs.Hiding.{ExactlyOne, Solution, Honest, Keeps}

unfoldable pub other : List ℕ
other = 0x3D ∷ 0x01 ∷ []

unfoldable pub Δ₀ : List ℕ
Δ₀ = 0x00 ∷ 0x00 ∷ []

unfoldable pub hidden : List ℕ
hidden = 0x98 ∷ 0xF4 ∷ 0x06 ∷ 0x16 ∷ 0x2D ∷ 0x06 ∷ []

unfoldable pub hidden₀ : List ℕ
hidden₀ = 0x4E ∷ 0x4B ∷ 0x02 ∷ 0xAD ∷ 0xA6 ∷ 0x03 ∷ []

unfoldable pub own_hidden : List ℕ
own_hidden = 0x14 ∷ 0x6D ∷ 0x05 ∷ 0x9A ∷ 0xB4 ∷ 0x05 ∷ []

abbrev pub seen : View
seen = record { opened = opened; Δ = Δ; H' = H'; χ = χ; proof = proof }

-- What `ExactlyOne` takes: one number, and neither none nor two.
pub record OneIsOne : Type 0 where
  pub one : ExactlyOne (λ (x : ℕ). x ≡ 5)
  pub none : ExactlyOne (λ (x : ℕ). x < 0) → ⊥
  pub two : ExactlyOne (λ (x : ℕ). x < 2) → ⊥

-- The other solution and its hidden leaves: the same opened leaves and the same bytes.
pub record SmallHiding : Type 0 where
  pub other-form : witness_form bits16 sizes other ≡ true
  pub other-solves : solves bits16 sizes key other ≡ true
  pub hidden-form : hidden_form bits16 sizes hidden ≡ true
  -- leaf 4 of repetition 0 and leaf 11 of repetition 1, with Δ = 04 0B
  pub first_placed : leaf_at 16 3 (with_hidden bits16 sizes leaves Δ hidden) 0 4 ≡ 0x98 ∷ 0xF4 ∷ 0x06 ∷ []
  pub second_placed : leaf_at 16 3 (with_hidden bits16 sizes leaves Δ hidden) 1 11 ≡ 0x16 ∷ 0x2D ∷ 0x06 ∷ []
  pub same-opened : opening bits16 sizes (with_hidden bits16 sizes leaves Δ hidden) Δ ≡ opened
  pub same-proof : proof_of bits16 key (with_hidden bits16 sizes leaves Δ hidden) other H' χ ≡ proof
  -- the prover's own, which are the one choice for its own witness
  pub own_is : hidden_of bits16 sizes leaves Δ ≡ own_hidden
  pub own_back : with_hidden bits16 sizes leaves Δ own_hidden ≡ leaves

-- The same at Δ = 0, where v does not change with the hidden leaves.
pub record SmallHiding₀ : Type 0 where
  pub hidden-form : hidden_form bits16 sizes hidden₀ ≡ true
  pub same-opened : opening bits16 sizes (with_hidden bits16 sizes leaves Δ₀ hidden₀) Δ₀ ≡ opening bits16 sizes leaves Δ₀
  pub same-proof : proof_of bits16 key (with_hidden bits16 sizes leaves Δ₀ hidden₀) other H' χ ≡ proof

abbrev pub keeps : List ℕ → List ℕ → Type 0
keeps challenge h = Keeps bits16 key leaves witness challenge H' χ other h

-- What is no choice of hidden leaves, though it makes the same proof: a spare bit set, and an entry that is no byte.
-- The prover's own are none for the other solution; and what does not solve the system is no solution.
pub record NoChoice : Type 0 where
  pub spare-form : hidden_form bits16 sizes (changed hidden 5 0x08) ≡ false
  pub spare-proof : proof_of bits16 key (with_hidden bits16 sizes leaves Δ (changed hidden 5 0x08)) other H' χ ≡ proof
  pub entry-form : HiddenForm bits16 sizes (set hidden 0 0x198) → ⊥
  pub entry-proof : proof_of bits16 key (with_hidden bits16 sizes leaves Δ (set hidden 0 0x198)) other H' χ ≡ proof
  pub own-none : keeps Δ own_hidden → ⊥
  pub no_solution : Solution bits16 key (changed other 0 0x02) → ⊥

-- The mask of four and of eight coordinates that are 1 is the sum of all powers.
pub record MaskValues : Type 0 where
  pub four-ones : bits16.K.byte (mask_sum bits16 (λ i. bits16.K.elem 1)) ≡ 0x0F
  pub eight-ones : bits256.K.byte (mask_sum bits256 (λ i. bits256.K.elem 1)) ≡ 0xFF

abbrev pub SmallView : Type 0
SmallView = view_of bits16 key leaves witness Δ H' χ ≡ seen

-- The theorem at the example: its hypotheses are met, and its one choice is the hidden leaves above.
pub record SmallApplied : Type 0 where
  pub honest : Honest bits16 key leaves witness Δ
  pub honest₀ : Honest bits16 key leaves witness Δ₀
  pub keeps_view : keeps Δ hidden
  pub keeps_view₀ : keeps Δ₀ hidden₀
  pub only : (h : List ℕ) → keeps Δ h → h ≡ hidden
  pub only₀ : (h : List ℕ) → keeps Δ₀ h → h ≡ hidden₀
