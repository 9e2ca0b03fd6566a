-- The changed proofs, computed: the replies on the definitions, the factors from the coefficients of the checks.
-- Assumes nothing.
use mathlib.Core.Path.{◌≡◌, refl, ap, ◌∙◌}
use mathlib.Core.Bool.{true}
use Prim.Native.Nat.{◌*◌}
use lib.Dec.{lit<}
use lib.ListN.{get_or}
use Rattle.galois.specs.Degrees.{field_of}
use Rattle.protocol.specs.Frames.{num2}
use Rattle.protocol.specs.Binary.{bits16}
use Rattle.protocol.specs.Calls.{well_formed}
use Rattle.protocol.specs.Counting.{accepted_count}
use Rattle.protocol.specs.SmallExample.{four, changed, key, leaves, H', χ, Δ, opened, proof}
use Rattle.protocol.proofs.Computing.{computing}
use Rattle.theorems.proofs.Theorems.{forgery_count}
use Rattle.examples.proofs.ExampleFactors.{both}
use Rattle.examples.specs.ChangedProofs.{Small, ChangedProofs}

C-1 : Small 4 1 983041 16 2
unfolding computing key leaves H' χ Δ opened proof
C-1 = record { reply_is = refl; factors_are = both bits16 key leaves H' χ refl (lit< tt) (changed proof 4 1) 16 2 refl refl }

d_1 : Small 11 1 983040 2 2
unfolding computing key leaves H' χ Δ opened proof
d_1 = record { reply_is = refl; factors_are = both bits16 key leaves H' χ refl (lit< tt) (changed proof 11 1) 2 2 refl refl }

well_formed_lem : well_formed four key leaves H' χ (changed proof 11 1) ≡ true
unfolding computing key leaves H' χ proof
well_formed_lem = refl

-- the product of the two factors
d_1_count : accepted_count four key leaves H' χ (changed proof 11 1) ≡ 4
unfolding field_of num2 key
d_1_count = (forgery_count four key leaves H' χ (changed proof 11 1) well_formed_lem).count_is_product ∙ ap (λ l. get_or l 0 0 * (get_or l 1 0 * 1)) d_1.factors_are

ũ_1 : Small 17 1 917504 1 1
unfolding computing key leaves H' χ Δ opened proof
ũ_1 = record { reply_is = refl; factors_are = both bits16 key leaves H' χ refl (lit< tt) (changed proof 17 1) 1 1 refl refl }

Ṽ_1 : Small 22 1 917504 0 16
unfolding computing key leaves H' χ Δ opened proof
Ṽ_1 = record { reply_is = refl; factors_are = both bits16 key leaves H' χ refl (lit< tt) (changed proof 22 1) 0 16 refl refl }

Ṽ_2 : Small 23 2 917504 0 16
unfolding computing key leaves H' χ Δ opened proof
Ṽ_2 = record { reply_is = refl; factors_are = both bits16 key leaves H' χ refl (lit< tt) (changed proof 23 2) 0 16 refl refl }

qs0_1 : Small 30 1 983040 0 16
unfolding computing key leaves H' χ Δ opened proof
qs0_1 = record { reply_is = refl; factors_are = both bits16 key leaves H' χ refl (lit< tt) (changed proof 30 1) 0 16 refl refl }

qs0_2 : Small 31 2 983041 16 0
unfolding computing key leaves H' χ Δ opened proof
qs0_2 = record { reply_is = refl; factors_are = both bits16 key leaves H' χ refl (lit< tt) (changed proof 31 2) 16 0 refl refl }

qs1_1 : Small 36 1 983040 1 16
unfolding computing key leaves H' χ Δ opened proof
qs1_1 = record { reply_is = refl; factors_are = both bits16 key leaves H' χ refl (lit< tt) (changed proof 36 1) 1 16 refl refl }

qs1_2 : Small 37 2 983041 16 1
unfolding computing key leaves H' χ Δ opened proof
qs1_2 = record { reply_is = refl; factors_are = both bits16 key leaves H' χ refl (lit< tt) (changed proof 37 2) 16 1 refl refl }

pub changed_proofs : ChangedProofs
changed_proofs = record {
  C-1 = C-1;
  d_1 = d_1;
  d_1_count = d_1_count;
  ũ_1 = ũ_1;
  Ṽ_1 = Ṽ_1;
  Ṽ_2 = Ṽ_2;
  QS0_1 = qs0_1;
  QS0_2 = qs0_2;
  QS1_1 = qs1_1;
  QS1_2 = qs1_2;
}
