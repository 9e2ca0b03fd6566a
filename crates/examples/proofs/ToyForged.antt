-- With y = 0 and QS1 = 05 the toy's verifier accepts at 00 and 52 only: where Δ + 05·Δ² = 0, a test that the checker
-- computes at each of the 256 elements.
-- Assumes nothing.
use mathlib.Core.Path.{◌≡◌, refl, ap, ◌∙◌, subst}
use mathlib.Core.Bool.{Bool, true, not, ◌||◌}
use Prim.Native.Nat.{ℕ, ◌<◌}
use lib.Dec.{T, eqb}
use Rattle.algebra.specs.Bits.{plus, everywhere}
use Rattle.algebra.specs.Roots.{passing}
use Rattle.algebra.proofs.BitsLaws.{bit-same}
use Rattle.algebra.proofs.LinearLaws.{everywhere-at}
use Rattle.protocol.specs.Answers.{is_accepted}
use Rattle.protocol.specs.Calls.{well_formed}
use Rattle.protocol.specs.Check.{eight}
use Rattle.examples.specs.Toy.{A, key₀, leaves, H', χ, proof_qs1, answer_with}
use Rattle.examples.proofs.ToyComputing.{computing}
use Rattle.examples.proofs.ToyLeaves.{F}
use Rattle.examples.proofs.ToyChallenges.{K, conditions_with, coefficients, accepted_if_passing}

pub forged_well_formed : well_formed eight key₀ leaves H' χ proof_qs1 ≡ true
unfolding computing
forged_well_formed = refl

pub coefficients_are : coefficients 0x00 proof_qs1 ≡ conditions_with 0x00 0x01 0x05
unfolding computing
coefficients_are = refl

abbrev two : F → Bool
two δ = eqb (A.K.byte δ) 0x00 || eqb (A.K.byte δ) 0x52

roots : T (everywhere 8 (λ δ. not (plus (passing K (conditions_with 0x00 0x01 0x05) δ) (two δ))))
unfolding computing
roots = tt

at_element : (δ : F) → is_accepted (answer_with key₀ (A.K.byte δ) proof_qs1) ≡ two δ
at_element δ =
    accepted_if_passing 0x00 proof_qs1 forged_well_formed δ
    ∙ ap (λ c. passing K c δ) coefficients_are
    ∙ bit-same _ _ (everywhere-at 8 (λ δ. not (plus (passing K (conditions_with 0x00 0x01 0x05) δ) (two δ))) roots δ)

pub forged_at_00_and_52 : (δ : ℕ) → δ < 256 → is_accepted (answer_with key₀ δ proof_qs1) ≡ (eqb δ 0x00 || eqb δ 0x52)
forged_at_00_and_52 δ l = subst (λ b. is_accepted (answer_with key₀ b proof_qs1) ≡ (eqb b 0x00 || eqb b 0x52)) (A.K.byte-elem δ l) (at_element (A.K.elem δ))
