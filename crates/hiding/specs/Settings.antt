-- Request 8 in every setting: "It holds at either degree, also at Δ = 0."
--   HonestIn g key leaves x Δ H' χ == "leaves lent in full and all else honest": every question of the prover on form
--     gets a yes, x solves the system, and Δ is τ elements of the field
--   GivesIn g key x w leaves == with x these full leaves, which are such, give the view w
--   FullLeavesIn g == FullLeaves, of what the prover takes
--   KeepsWitness g == all that is shown
-- Assumes nothing.
use Rattle.std.specs.Prelude.{◌≡◌, true, List, ℕ}
use Rattle.protocol.specs.Strings.{bytes}
use Rattle.protocol.specs.Alphabet.{Alphabet}
use Rattle.protocol.specs.Setting.{Setting, alphabet_of}
use Rattle.protocol.specs.Shape.{shape_of}
use Rattle.protocol.specs.Questions.{solves}
use Rattle.protocol.specs.Calls.{honest_form}
use Rattle.hiding.specs.View.{View, view_of}
use Rattle.hiding.specs.Hiding.{ExactlyOne, Solution, Challenge, Keeps, KeepsOver}

module _ (g : Setting) where
  abbrev pub A : Alphabet
  A = alphabet_of g

  pub record HonestIn (key leaves x Δ H' χ : List ℕ) : Type 0 where
    pub form : honest_form g key leaves x H' χ ≡ true
    pub solved : solves A (shape_of key) key x ≡ true
    pub challenge : Challenge A key Δ

  abbrev pub HiddenLeavesIn : Type 0
  HiddenLeavesIn = (key leaves x Δ H' χ x' : List ℕ) → HonestIn key leaves x Δ H' χ → Solution A key x' → ExactlyOne (Keeps A key leaves x Δ H' χ x')

  abbrev pub GivesIn : List ℕ → List ℕ → View → List ℕ → Type 0
  GivesIn key x w leaves = HonestIn key leaves x w.Δ w.H' w.χ × bytes leaves × (view_of A key leaves x w.Δ w.H' w.χ ≡ w)

  abbrev pub FullLeavesIn : Type 0
  FullLeavesIn = (key leaves x Δ H' χ x' : List ℕ) → HonestIn key leaves x Δ H' χ → bytes leaves → Solution A key x' → ExactlyOne (GivesIn key x' (view_of A key leaves x Δ H' χ))

  pub record KeepsWitness : Type 0 where
    pub over : KeepsOver A
    pub hidden_leaves_in : HiddenLeavesIn
    pub full_leaves_in : FullLeavesIn
