-- χ and ι of lanes of which some are changed, lane by lane.
-- Assumes nothing.
use mathlib.Core.Path.{◌≡◌, refl, sym, ap, ap₂, ◌∙◌}
use mathlib.Core.List.{List, ◌∷◌}
use mathlib.Core.Bool.{true, false}
use Prim.Native.Nat.{ℕ, ◌^◌, ◌<◌}
use lib.ListN.{get_or}
use lib.Bits.{bit_xor, bit_and, bit_or}
use Rattle.sponge.specs.Lanes.{complement, lane, state_of}
use Rattle.sponge.specs.Keccak.{χ, ι}
use Rattle.keccak.specs.Flags.{ones, flag, named, flips, outer, inner}
use Rattle.keccak.specs.Planes.{plane₀, plane₁, plane₂, plane₃, plane₄, joined, held_round}
use Rattle.keccak.proofs.FlagLaws.{sum_is, t00, t00n, t01, t10, t11n, past, twice}

module _ (s : List ℕ) (k : ℕ) (h : (x y : ℕ) → lane s x y < 2 ^ 64) where
  pub chi_flips : held_round k s ≡ flips outer (ι k (χ (flips inner s)))
  unfolding held_round joined plane₀ plane₁ plane₂ plane₃ plane₄ flips χ ι state_of lane named outer inner flag
  chi_flips =
      ap₂ ◌∷◌ (ap (λ x. bit_xor x k) (sym (sum_is false true true (get_or s 0 0) (bit_or (get_or s 1 0) (get_or s 2 0)) (bit_and (complement (flag false (get_or s 1 0))) (flag true (get_or s 2 0))) (t01 (get_or s 1 0) (get_or s 2 0) (h 1 0) (h 2 0))))) (
      ap₂ ◌∷◌ (sym (sum_is true false true (get_or s 1 0) (bit_or (get_or s 3 0) (bit_xor (get_or s 2 0) ones)) (bit_and (complement (flag true (get_or s 2 0))) (flag true (get_or s 3 0))) (t11n (get_or s 2 0) (get_or s 3 0) (h 2 0) (h 3 0)) ∙ twice (bit_xor (get_or s 1 0) (bit_or (get_or s 3 0) (bit_xor (get_or s 2 0) ones))))) (
      ap₂ ◌∷◌ (sym (sum_is true true false (get_or s 2 0) (bit_and (get_or s 3 0) (get_or s 4 0)) (bit_and (complement (flag true (get_or s 3 0))) (flag false (get_or s 4 0))) (t10 (get_or s 3 0) (get_or s 4 0) (h 3 0) (h 4 0)) ∙ twice (bit_xor (get_or s 2 0) (bit_and (get_or s 3 0) (get_or s 4 0))))) (
      ap₂ ◌∷◌ (sym (sum_is false true true (get_or s 3 0) (bit_or (get_or s 4 0) (get_or s 0 0)) (bit_and (complement (flag false (get_or s 4 0))) (flag true (get_or s 0 0))) (t01 (get_or s 4 0) (get_or s 0 0) (h 4 0) (h 0 0)))) (
      ap₂ ◌∷◌ (sym (sum_is false false false (get_or s 4 0) (bit_and (get_or s 0 0) (get_or s 1 0)) (bit_and (complement (flag true (get_or s 0 0))) (flag false (get_or s 1 0))) (t10 (get_or s 0 0) (get_or s 1 0) (h 0 0) (h 1 0)))) (
      ap₂ ◌∷◌ (sym (sum_is false true true (get_or s 5 0) (bit_or (get_or s 6 0) (get_or s 7 0)) (bit_and (complement (flag false (get_or s 6 0))) (flag true (get_or s 7 0))) (t01 (get_or s 6 0) (get_or s 7 0) (h 1 1) (h 2 1)))) (
      ap₂ ◌∷◌ (sym (sum_is false false false (get_or s 6 0) (bit_and (get_or s 7 0) (get_or s 8 0)) (bit_and (complement (flag true (get_or s 7 0))) (flag false (get_or s 8 0))) (t10 (get_or s 7 0) (get_or s 8 0) (h 2 1) (h 3 1)))) (
      ap₂ ◌∷◌ (sym (sum_is false true true (get_or s 7 0) (bit_or (get_or s 8 0) (bit_xor (get_or s 9 0) ones)) (bit_and (complement (flag false (get_or s 8 0))) (flag false (get_or s 9 0))) (t00n (get_or s 8 0) (get_or s 9 0) (h 3 1) (h 4 1)))) (
      ap₂ ◌∷◌ (sym (sum_is true false true (get_or s 8 0) (bit_or (get_or s 9 0) (get_or s 5 0)) (bit_and (complement (flag false (get_or s 9 0))) (flag true (get_or s 5 0))) (t01 (get_or s 9 0) (get_or s 5 0) (h 4 1) (h 0 1)) ∙ twice (bit_xor (get_or s 8 0) (bit_or (get_or s 9 0) (get_or s 5 0))))) (
      ap₂ ◌∷◌ (sym (sum_is false false false (get_or s 9 0) (bit_and (get_or s 5 0) (get_or s 6 0)) (bit_and (complement (flag true (get_or s 5 0))) (flag false (get_or s 6 0))) (t10 (get_or s 5 0) (get_or s 6 0) (h 0 1) (h 1 1)))) (
      ap₂ ◌∷◌ (sym (sum_is false true true (get_or s 10 0) (bit_or (get_or s 11 0) (get_or s 12 0)) (bit_and (complement (flag false (get_or s 11 0))) (flag true (get_or s 12 0))) (t01 (get_or s 11 0) (get_or s 12 0) (h 1 2) (h 2 2)))) (
      ap₂ ◌∷◌ (sym (sum_is false false false (get_or s 11 0) (bit_and (get_or s 12 0) (get_or s 13 0)) (bit_and (complement (flag true (get_or s 12 0))) (flag false (get_or s 13 0))) (t10 (get_or s 12 0) (get_or s 13 0) (h 2 2) (h 3 2)))) (
      ap₂ ◌∷◌ (sym (sum_is true true false (get_or s 12 0) (bit_and (bit_xor (get_or s 13 0) ones) (get_or s 14 0)) (bit_and (complement (flag false (get_or s 13 0))) (flag false (get_or s 14 0))) (t00 (get_or s 13 0) (get_or s 14 0) (h 3 2) (h 4 2)) ∙ twice (bit_xor (get_or s 12 0) (bit_and (bit_xor (get_or s 13 0) ones) (get_or s 14 0))))) (
      ap₂ ◌∷◌ (sym (sum_is false false true (get_or s 13 0) (bit_or (get_or s 14 0) (get_or s 10 0)) (bit_and (complement (flag false (get_or s 14 0))) (flag true (get_or s 10 0))) (t01 (get_or s 14 0) (get_or s 10 0) (h 4 2) (h 0 2)) ∙ sym (past (get_or s 13 0) (bit_or (get_or s 14 0) (get_or s 10 0))))) (
      ap₂ ◌∷◌ (sym (sum_is false false false (get_or s 14 0) (bit_and (get_or s 10 0) (get_or s 11 0)) (bit_and (complement (flag true (get_or s 10 0))) (flag false (get_or s 11 0))) (t10 (get_or s 10 0) (get_or s 11 0) (h 0 2) (h 1 2)))) (
      ap₂ ◌∷◌ (sym (sum_is false false false (get_or s 15 0) (bit_and (get_or s 16 0) (get_or s 17 0)) (bit_and (complement (flag true (get_or s 16 0))) (flag false (get_or s 17 0))) (t10 (get_or s 16 0) (get_or s 17 0) (h 1 3) (h 2 3)))) (
      ap₂ ◌∷◌ (sym (sum_is false true true (get_or s 16 0) (bit_or (get_or s 17 0) (get_or s 18 0)) (bit_and (complement (flag false (get_or s 17 0))) (flag true (get_or s 18 0))) (t01 (get_or s 17 0) (get_or s 18 0) (h 2 3) (h 3 3)))) (
      ap₂ ◌∷◌ (sym (sum_is true false true (get_or s 17 0) (bit_or (get_or s 19 0) (bit_xor (get_or s 18 0) ones)) (bit_and (complement (flag true (get_or s 18 0))) (flag true (get_or s 19 0))) (t11n (get_or s 18 0) (get_or s 19 0) (h 3 3) (h 4 3)) ∙ twice (bit_xor (get_or s 17 0) (bit_or (get_or s 19 0) (bit_xor (get_or s 18 0) ones))))) (
      ap₂ ◌∷◌ (sym (sum_is false true false (get_or s 18 0) (bit_and (get_or s 19 0) (get_or s 15 0)) (bit_and (complement (flag true (get_or s 19 0))) (flag false (get_or s 15 0))) (t10 (get_or s 19 0) (get_or s 15 0) (h 4 3) (h 0 3)) ∙ sym (past (get_or s 18 0) (bit_and (get_or s 19 0) (get_or s 15 0))))) (
      ap₂ ◌∷◌ (sym (sum_is false true true (get_or s 19 0) (bit_or (get_or s 15 0) (get_or s 16 0)) (bit_and (complement (flag false (get_or s 15 0))) (flag true (get_or s 16 0))) (t01 (get_or s 15 0) (get_or s 16 0) (h 0 3) (h 1 3)))) (
      ap₂ ◌∷◌ (sym (sum_is true true false (get_or s 20 0) (bit_and (bit_xor (get_or s 21 0) ones) (get_or s 22 0)) (bit_and (complement (flag false (get_or s 21 0))) (flag false (get_or s 22 0))) (t00 (get_or s 21 0) (get_or s 22 0) (h 1 4) (h 2 4)) ∙ twice (bit_xor (get_or s 20 0) (bit_and (bit_xor (get_or s 21 0) ones) (get_or s 22 0))))) (
      ap₂ ◌∷◌ (sym (sum_is false false true (get_or s 21 0) (bit_or (get_or s 22 0) (get_or s 23 0)) (bit_and (complement (flag false (get_or s 22 0))) (flag true (get_or s 23 0))) (t01 (get_or s 22 0) (get_or s 23 0) (h 2 4) (h 3 4)) ∙ sym (past (get_or s 21 0) (bit_or (get_or s 22 0) (get_or s 23 0))))) (
      ap₂ ◌∷◌ (sym (sum_is false false false (get_or s 22 0) (bit_and (get_or s 23 0) (get_or s 24 0)) (bit_and (complement (flag true (get_or s 23 0))) (flag false (get_or s 24 0))) (t10 (get_or s 23 0) (get_or s 24 0) (h 3 4) (h 4 4)))) (
      ap₂ ◌∷◌ (sym (sum_is false true true (get_or s 23 0) (bit_or (get_or s 24 0) (get_or s 20 0)) (bit_and (complement (flag false (get_or s 24 0))) (flag true (get_or s 20 0))) (t01 (get_or s 24 0) (get_or s 20 0) (h 4 4) (h 0 4)))) (
      ap₂ ◌∷◌ (sym (sum_is false false false (get_or s 24 0) (bit_and (get_or s 20 0) (get_or s 21 0)) (bit_and (complement (flag true (get_or s 20 0))) (flag false (get_or s 21 0))) (t10 (get_or s 20 0) (get_or s 21 0) (h 0 4) (h 1 4)))) (refl)))))))))))))))))))))))))

-- five planes, each as its equation says
pub joined_is : (k : ℕ) (m p q r s t : List ℕ) → p ≡ plane₀ k m → q ≡ plane₁ m → r ≡ plane₂ m → s ≡ plane₃ m → t ≡ plane₄ m
    → joined p q r s t ≡ held_round k m
unfolding held_round
joined_is k m p q r s t e₀ e₁ e₂ e₃ e₄ =
    ap (λ x. joined x q r s t) e₀ ∙ ap (λ x. joined (plane₀ k m) x r s t) e₁ ∙ ap (λ x. joined (plane₀ k m) (plane₁ m) x s t) e₂
    ∙ ap (λ x. joined (plane₀ k m) (plane₁ m) (plane₂ m) x t) e₃ ∙ ap (joined (plane₀ k m) (plane₁ m) (plane₂ m) (plane₃ m)) e₄
