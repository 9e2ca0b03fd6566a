-- The toy at degree 4, computed on the definitions: no theorem is used.
-- Assumes nothing.
use mathlib.Core.Path.{refl}
use Rattle.protocol.proofs.Computing.{computing}
use Rattle.examples.specs.Toy4.{key_with, leaves, proof_with, Toy4}

pub toy_4 : Toy4
unfolding computing key_with leaves proof_with
toy_4 = record {
  header_is = refl;
  k_is = refl;
  L_is = refl;
  w_is = refl;
  tree_is = refl;
  opened_is = refl;
  u_is = refl;
  v_is = refl;
  mask_u = refl;
  mask-v = refl;
  C_is = refl;
  d_is = refl;
  ũ_is = refl;
  Ṽ_is = refl;
  QS0_is = refl;
  QS1_is = refl;
  proof_is = refl;
  proof-length = refl;
  test-taken = refl;
  test-refused = refl;
  opening_is = refl;
  proof_at_03 = refl;
  proof-everywhere = refl;
  d_at_03 = refl;
  d_accepted = refl;
  ũ_at_03 = refl;
  ũ_accepted = refl;
  Ṽ_at_03 = refl;
  Ṽ_accepted = refl;
  QS0_at_03 = refl;
  QS0-accepted = refl;
  QS1_at_03 = refl;
  QS1-accepted = refl;
  forged_accepted = refl;
  forged_count = refl;
  forged_factor = refl;
  forged_again = refl;
  factor-none = refl;
  factor-one = refl;
  factor-full = refl;
  degree-tested = refl;
  degree_verified = refl;
  χ_no_element = refl;
  Δ_no_element = refl;
  Ṽ_no_element = refl;
  QS0_no_element = refl;
  QS1_no_element = refl;
}
