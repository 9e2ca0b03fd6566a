-- Proofs of SmallExample with one byte changed: the verifier's reply, and the factors of both repetitions.
-- proofs/ChangedProofs computes each statement. They are changed lines of sitting 0 of the vectors masks-degree4.rsp
-- (tests/reference), made from the papers by other hands.
--   factors p == the factors of both repetitions of SmallExample's key, leaves, H' and χ with the proof p
--   Small i x r f g == of SmallExample's proof with byte i xor x, the reply is r and the factors are f and g
-- Assumes nothing.
use Rattle.std.specs.Prelude.{◌≡◌, List, [], ◌∷◌, ℕ}
use Rattle.protocol.specs.Binary.{bits16}
use Rattle.protocol.specs.Counting.{accepted_count, factor}
use Rattle.protocol.specs.SmallExample.{four, changed, key, leaves, H', χ, proof, reply}

abbrev pub factors : List ℕ → List ℕ
factors p = factor bits16 key leaves H' χ p 0 ∷ factor bits16 key leaves H' χ p 1 ∷ []

pub record Small (i x r f g : ℕ) : Type 0 where
  pub reply_is : reply (changed proof i x) ≡ r
  pub factors_are : factors (changed proof i x) ≡ f ∷ g ∷ []

pub record ChangedProofs : Type 0 where
  pub C-1 : Small 4 1 983041 16 2
  pub d_1 : Small 11 1 983040 2 2
  -- in each repetition two challenges still pass, so that four strings are accepted
  pub d_1_count : accepted_count four key leaves H' χ (changed proof 11 1) ≡ 4
  pub ũ_1 : Small 17 1 917504 1 1
  pub Ṽ_1 : Small 22 1 917504 0 16
  pub Ṽ_2 : Small 23 2 917504 0 16
  pub QS0_1 : Small 30 1 983040 0 16
  pub QS0_2 : Small 31 2 983041 16 0
  pub QS1_1 : Small 36 1 983040 1 16
  pub QS1_2 : Small 37 2 983041 16 1
