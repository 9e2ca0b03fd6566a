-- The edges, computed on the definitions.
-- Assumes nothing.
use mathlib.Core.Path.{refl}
use Rattle.protocol.specs.Reader.{section_at}
use Rattle.protocol.specs.SmallExample.{key, witness, leaves, H', χ, Δ, proof, opened}
use Rattle.protocol.specs.Edges.{Degrees, Elements, Limits, Forms, Numbers, Lengths, Order, FirstEquation, Derived, Extents, Words}
use Rattle.protocol.proofs.Computing.{computing}

pub degrees_are : Degrees
unfolding computing key witness
degrees_are = record {
  eight-served = refl;
  four-served = refl;
  eight_goes_on = refl;
  four_goes_on = refl;
  at_0 = refl;
  at_3 = refl;
  at_5 = refl;
  at_12 = refl;
  at_260 = refl;
}

pub elements_are : Elements
unfolding computing key witness leaves H' χ Δ proof opened
elements_are = record {
  last_element = refl;
  first_no_element = refl;
  first-asked = refl;
  last-asked = refl;
  every_byte = refl;
  χ_first = refl;
  Δ_first = refl;
  Ṽ_first = refl;
  QS0-first = refl;
  QS1-first = refl;
}

pub limits_are : Limits
unfolding computing
limits_are = record {
  least = refl;
  one_each = refl;
  most = refl;
  n_none = refl;
  τ_none = refl;
  t_none = refl;
  n_over = refl;
  m_over = refl;
  τ_over = refl;
  t_over = refl;
}

pub forms_are : Forms
unfolding computing key witness leaves H' proof opened
forms_are = record {
  key-exact = refl;
  count_wrong = refl;
  count-second = refl;
  count_third = refl;
  count_fourth = refl;
  key-long = refl;
  key-spare = refl;
  A-spare-set = refl;
  A-first-row = refl;
  b_spare_set = refl;
  b_first_row = refl;
  y_spare_set = refl;
  y_last = refl;
  H_spare = refl;
  H_spare_set = refl;
  H_first_row = refl;
  leaves-spare = refl;
  leaves-spare-set = refl;
  leaves-first-row = refl;
  opened-spare = refl;
  opened-spare-set = refl;
  opened-first-row = refl;
  witness-form = refl;
  witness-spare-set = refl;
  witness-long = refl;
  witness-short = refl;
  witness-last = refl;
  proof-spare = refl;
  C-spare-set = refl;
  C-last = refl;
  d_spare_set = refl;
  d_last = refl;
  ũ_spare_set = refl;
  ũ_last = refl;
  solved = refl;
  not-solved = refl;
}

pub numbers_are : Numbers
unfolding computing
numbers_are = record {
  num2_is = refl;
  num4_is = refl;
  count4_is = refl;
}

pub lengths_are : Lengths
unfolding computing key witness leaves H' χ Δ proof opened
lengths_are = record {
  header-short = refl;
  header-alone = refl;
  m_high = refl;
  τ_high = refl;
  t_high = refl;
  Δ_long = refl;
  Δ_short = refl;
  H_long = refl;
  H_short = refl;
  χ_short = refl;
  count_third = refl;
}

pub order_is : Order
unfolding computing key witness leaves H' χ Δ proof opened
order_is = record {
  two-three = refl;
  three-four = refl;
  five-six = refl;
  seven_eight = refl;
  twelve_thirteen = refl;
  eight_ten = refl;
  nine_ten = refl;
  ten_eleven = refl;
  sixteen_one = refl;
  sixteen_one_verify = refl;
  five_seventeen = refl;
  six_seventeen = refl;
  six_seventeen_verify = refl;
  seventeen_seven = refl;
  seventeen_seven_batch = refl;
  seventeen_seven_verify = refl;
  twelve_eighteen = refl;
  thirteen_eighteen = refl;
  eighteen_fourteen = refl;
}

pub first_equation : FirstEquation
unfolding computing key witness leaves H' χ
first_equation = record {
  both_fail = refl;
  second-fails = refl;
}

pub derived_are : Derived
unfolding computing
derived_are = record {
  k_is = refl;
  L_is = refl;
  w_is = refl;
  tree_is = refl;
  opened_is = refl;
  k_largest = refl;
  L-largest = refl;
  w_largest = refl;
  mask-second = refl;
  mask-last = refl;
  masks_are = refl;
  tree_sixteen = refl;
  opened_sixteen = refl;
  masks_sixteen = refl;
  k_sixteen = refl;
  mask_sixteen = refl;
}

pub extents_are : Extents
unfolding computing section_at proof
extents_are = record {
  first = refl;
  last = refl;
  cut = refl;
  count_cut = refl;
  at-end = refl;
  count_third = refl;
}

pub words_are : Words
unfolding computing
words_are = record {
  accepted_is = refl;
  refused_is = refl;
}
