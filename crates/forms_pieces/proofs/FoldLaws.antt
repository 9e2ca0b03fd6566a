-- A sum over the entries of a folded matrix, under weights that are symmetric, is the sum over all entries of the
-- matrix: for forms and for their polar forms.
-- Assumes nothing.
use mathlib.Core.Path.{◌≡◌, sym, ap, ap₂, ◌∙◌}
use mathlib.Core.Bool.{Bool, true, false, cond}
use mathlib.Core.List.{List}
use Prim.Native.Nat.{ℕ, ◌+◌, ◌*◌, ◌/◌, ◌%◌, ◌≤◌, ◌<◌}
use native.Mathlib.Nat.{zero-mul, one-mul, mul-zero}
use native.Mathlib.Decide.{dec_lt}
use native.Mathlib.Omega.{arith}
use lib.Arith.{digits_div}
use lib.Bits.{bit_xor, xor_zero_l, xor_zero_r, xor_comm, xor_lt}
use lib.Dec.{ltb, lit<}
use Rattle.theorems.proofs.TestLaws.{ltb_yes, ltb_no}
use Rattle.protocol.specs.Lists.{block_at}
use Rattle.strings.specs.Sums.{xor_sum}
use Rattle.strings.proofs.SumLaws.{sum_same, sum_both, sum-none, sum-short, xor_scale, scale_xor}
use Rattle.strings.proofs.Meaning.{bitOf_lt}
use Rattle.chunks.proofs.BitSumLaws.{sum-swap, sum-blocks}
use Rattle.forms_folds.specs.Folds.{entry, folded_bit}
use Rattle.forms_columns.specs.Stacks.{byte_product}
use Rattle.forms_columns.proofs.ProductLaws.{product_comm, product-zero}
use Rattle.forms_batching.specs.Batched.{batched_byte}
use Rattle.forms_pieces.specs.FormSums.{left_sum, form_sum}
use Rattle.forms_batching.proofs.FormLaws.{product-outer, product-rows}

-- ---- one matrix

abbrev folded : (ℕ → ℕ → ℕ) → ℕ → ℕ → ℕ
folded E ρ c = bit_xor (E ρ c) (cond (ltb (ρ / 16) (c / 16)) (E c ρ) 0)

-- the sum over the panels, of sixteen columns each, and in each over the rows of its own and earlier sixteens
abbrev panels : ℕ → (ℕ → ℕ → ℕ) → ℕ
panels N g = xor_sum N (λ J. xor_sum 16 (λ s. xor_sum ((J + 1) * 16) (λ ρ. g ρ (J * 16 + s))))

-- 1 where row ρ is in an earlier sixteen than column c, and 1 where it is in no later one
earlier : ℕ → ℕ → ℕ
earlier ρ c = cond (ltb (ρ / 16) (c / 16)) 1 0

in_time : ℕ → ℕ → ℕ
in_time ρ c = cond (ltb (c / 16) (ρ / 16)) 0 1

panels-same : (N : ℕ) (g g' : ℕ → ℕ → ℕ) → ((ρ c : ℕ) → g ρ c ≡ g' ρ c) → panels N g ≡ panels N g'
panels-same N g g' same = sum_same N _ _ (λ J l. sum_same 16 _ _ (λ s k. sum_same ((J + 1) * 16) _ _ (λ ρ j. same ρ (J * 16 + s))))

panels-both : (N : ℕ) (g g' : ℕ → ℕ → ℕ) → bit_xor (panels N g) (panels N g') ≡ panels N (λ ρ c. bit_xor (g ρ c) (g' ρ c))
panels-both N g g' =
    sym (sum_both N _ _)
    ∙ sum_same N _ _ (λ J l. sym (sum_both 16 _ _) ∙ sum_same 16 _ _ (λ s k. sym (sum_both ((J + 1) * 16) (λ ρ. g ρ (J * 16 + s)) (λ ρ. g' ρ (J * 16 + s)))))

panels-columns : (N : ℕ) (g : ℕ → ℕ → ℕ) → panels N g ≡ xor_sum (N * 16) (λ c. xor_sum ((c / 16 + 1) * 16) (λ ρ. g ρ c))
panels-columns N g =
    sum_same N _ _ (λ J l. sum_same 16 _ (λ s. xor_sum (((J * 16 + s) / 16 + 1) * 16) (λ ρ. g ρ (J * 16 + s))) (λ s k. ap (λ j. xor_sum ((j + 1) * 16) (λ ρ. g ρ (J * 16 + s))) (sym (digits_div J k))))
    ∙ sum-blocks N 16 (λ c. xor_sum ((c / 16 + 1) * 16) (λ ρ. g ρ c))

panels_are : (N : ℕ) (g : ℕ → ℕ → ℕ) → panels N g ≡ xor_sum (N * 16) (λ c. xor_sum (N * 16) (λ ρ. in_time ρ c * g ρ c))
unfolding in_time
panels_are N g =
    panels-columns N g
    ∙ sum_same (N * 16) _ _ (λ c l.
    sum_same ((c / 16 + 1) * 16) _ (λ ρ. in_time ρ c * g ρ c) (λ ρ k. sym (ap (λ b. cond b 0 1 * g ρ c) (ltb_no (c / 16) (ρ / 16) (omega arith)) ∙ one-mul (g ρ c)))
    ∙ sym (sum-short ((c / 16 + 1) * 16) (N * 16) (λ ρ. in_time ρ c * g ρ c) (omega arith) (λ ρ k j. ap (λ b. cond b 0 1 * g ρ c) (ltb_yes (c / 16) (ρ / 16) (omega arith)) ∙ zero-mul (g ρ c))))

module _ (E φ : ℕ → ℕ → ℕ) (bits : (ρ c : ℕ) → E ρ c < 2) (even : (ρ c : ℕ) → φ ρ c ≡ φ c ρ) where
  a : ℕ → ℕ → ℕ
  a ρ c = E ρ c * φ ρ c

  -- a folded entry, taken apart
  apart : (ρ c : ℕ) → in_time ρ c * (folded E ρ c * φ ρ c) ≡ bit_xor (in_time ρ c * a ρ c) (earlier ρ c * a c ρ)
  unfolding a in_time earlier
  apart ρ c = go (dec_lt (ρ / 16) (c / 16))
    where
      go : Dec (ρ / 16 < c / 16) → in_time ρ c * (folded E ρ c * φ ρ c) ≡ bit_xor (in_time ρ c * a ρ c) (earlier ρ c * a c ρ)
      go (yes lt) =
          rw (ltb_yes (ρ / 16) (c / 16) lt, ltb_no (c / 16) (ρ / 16) (omega arith))
          (one-mul (bit_xor (E ρ c) (E c ρ) * φ ρ c) ∙ xor_scale (E ρ c) (E c ρ) (φ ρ c) (bits ρ c) (bits c ρ) ∙ ap₂ bit_xor (sym (one-mul (E ρ c * φ ρ c))) (ap (λ x. E c ρ * x) (even ρ c) ∙ sym (one-mul (E c ρ * φ c ρ))))
      go (no ge) =
          rw (ltb_no (ρ / 16) (c / 16) (omega arith))
          (ap (λ x. cond (ltb (c / 16) (ρ / 16)) 0 1 * (x * φ ρ c)) (xor_zero_r (E ρ c)) ∙ sym (ap (bit_xor (cond (ltb (c / 16) (ρ / 16)) 0 1 * (E ρ c * φ ρ c))) (zero-mul (E c ρ * φ c ρ)) ∙ xor_zero_r (cond (ltb (c / 16) (ρ / 16)) 0 1 * (E ρ c * φ ρ c))))

  -- of two mirror images one is in time, or both
  one_of_two : (b : Bool) (x : ℕ) → bit_xor (cond b 0 1 * x) (cond b 1 0 * x) ≡ x
  one_of_two true x = ap₂ bit_xor (zero-mul x) (one-mul x) ∙ xor_zero_l x
  one_of_two false x = ap₂ bit_xor (one-mul x) (zero-mul x) ∙ xor_zero_r x

  pub fold-sum : (N : ℕ) → panels N (λ ρ c. folded E ρ c * φ ρ c) ≡ xor_sum (N * 16) (λ ρ. xor_sum (N * 16) (λ c. E ρ c * φ ρ c))
  unfolding a in_time earlier
  fold-sum N =
      let Z = N * 16 in
      panels_are N (λ ρ c. folded E ρ c * φ ρ c)
      ∙ sum_same Z _ (λ c. bit_xor (xor_sum Z (λ ρ. in_time ρ c * a ρ c)) (xor_sum Z (λ ρ. earlier ρ c * a c ρ)))
      (λ c l. sum_same Z _ _ (λ ρ k. apart ρ c) ∙ sum_both Z (λ ρ. in_time ρ c * a ρ c) (λ ρ. earlier ρ c * a c ρ))
      ∙ sum_both Z (λ c. xor_sum Z (λ ρ. in_time ρ c * a ρ c)) (λ c. xor_sum Z (λ ρ. earlier ρ c * a c ρ))
      ∙ ap (bit_xor (xor_sum Z (λ c. xor_sum Z (λ ρ. in_time ρ c * a ρ c)))) (sum-swap Z Z (λ c ρ. earlier ρ c * a c ρ))
      ∙ sym (sum_both Z (λ c. xor_sum Z (λ ρ. in_time ρ c * a ρ c)) (λ c. xor_sum Z (λ ρ. earlier c ρ * a ρ c)))
      ∙ sum_same Z _ (λ c. xor_sum Z (λ ρ. a ρ c))
      (λ c l. sym (sum_both Z (λ ρ. in_time ρ c * a ρ c) (λ ρ. earlier c ρ * a ρ c)) ∙ sum_same Z _ _ (λ ρ k. one_of_two (ltb (c / 16) (ρ / 16)) (a ρ c)))
      ∙ sum-swap Z Z (λ c ρ. a ρ c)

-- ---- all matrices, batched

-- the batched matrix between two vectors, from the cells; and from the matrices themselves
abbrev batched : ℕ → (ℕ → ℕ → ℕ → ℕ) → (ℕ → ℕ) → ℕ → ℕ → ℕ
batched m E χ ρ c = xor_sum m (λ i. folded (E i) ρ c * χ i)

abbrev between : ℕ → ℕ → ℕ → (ℕ → ℕ → ℕ → ℕ) → (ℕ → ℕ) → (ℕ → ℕ) → (ℕ → ℕ) → ℕ
between d N m E χ y W = xor_sum N (λ J. xor_sum 16 (λ s. byte_product d (y (J * 16 + s)) (xor_sum ((J + 1) * 16) (λ ρ. byte_product d (W ρ) (batched m E χ ρ (J * 16 + s))))))

abbrev straight : ℕ → ℕ → ℕ → (ℕ → ℕ → ℕ → ℕ) → (ℕ → ℕ) → (ℕ → ℕ) → (ℕ → ℕ) → ℕ
straight d n m E χ y W = xor_sum m (λ i. byte_product d (χ i) (xor_sum n (λ ρ. byte_product d (W ρ) (xor_sum n (λ c. E i ρ c * y c)))))

product-left : (d p q r : ℕ) → byte_product d p (byte_product d q r) ≡ byte_product d q (byte_product d p r)
product-left d p q r = product-outer d p q r ∙ ap (byte_product d r) (product_comm d q p) ∙ sym (product-outer d q p r)

folded_lt : (E : ℕ → ℕ → ℕ) → ((ρ c : ℕ) → E ρ c < 2) → (ρ c : ℕ) → folded E ρ c < 2
folded_lt E bits ρ c = go (ltb (ρ / 16) (c / 16))
  where
    go : (b : Bool) → bit_xor (E ρ c) (cond b (E c ρ) 0) < 2
    go true = xor_lt 1 (E ρ c) (E c ρ) (bits ρ c) (bits c ρ)
    go false = xor_lt 1 (E ρ c) 0 (bits ρ c) (lit< tt)

pub folded_bit_lt : (w : ℕ) (M : List ℕ) (ρ c : ℕ) → folded_bit w M ρ c < 2
unfolding folded_bit
folded_bit_lt w M ρ c = folded_lt (entry w M) (λ r k. bitOf_lt _ (k % 8)) ρ c

-- the four indices of a term, the last first
to_front : (N m : ℕ) (R : ℕ → ℕ) (F : ℕ → ℕ → ℕ → ℕ → ℕ)
    → xor_sum N (λ J. xor_sum 16 (λ s. xor_sum (R J) (λ ρ. xor_sum m (λ i. F J s ρ i)))) ≡ xor_sum m (λ i. xor_sum N (λ J. xor_sum 16 (λ s. xor_sum (R J) (λ ρ. F J s ρ i))))
to_front N m R F =
    sum_same N _ (λ J. xor_sum m (λ i. xor_sum 16 (λ s. xor_sum (R J) (λ ρ. F J s ρ i))))
    (λ J l. sum_same 16 _ (λ s. xor_sum m (λ i. xor_sum (R J) (λ ρ. F J s ρ i))) (λ s k. sum-swap (R J) m (λ ρ i. F J s ρ i)) ∙ sum-swap 16 m (λ s i. xor_sum (R J) (λ ρ. F J s ρ i)))
    ∙ sum-swap N m (λ J i. xor_sum 16 (λ s. xor_sum (R J) (λ ρ. F J s ρ i)))

module _ (d N n m : ℕ) (E : ℕ → ℕ → ℕ → ℕ) (χ : ℕ → ℕ) (bits : (i ρ c : ℕ) → E i ρ c < 2) (most : n ≤ N * 16) where
  weight : (ℕ → ℕ) → (ℕ → ℕ) → ℕ → ℕ → ℕ → ℕ
  weight y W i ρ c = byte_product d (y c) (byte_product d (W ρ) (χ i))

  -- every term by itself
  between_terms : (y W : ℕ → ℕ) → between d N m E χ y W ≡ xor_sum m (λ i. panels N (λ ρ c. folded (E i) ρ c * weight y W i ρ c))
  unfolding weight
  between_terms y W =
      sum_same N _ _ (λ J l. sum_same 16 _ (λ s. xor_sum ((J + 1) * 16) (λ ρ. xor_sum m (λ i. folded (E i) ρ (J * 16 + s) * byte_product d (y (J * 16 + s)) (byte_product d (W ρ) (χ i)))))
      (λ s k. product-rows d ((J + 1) * 16) W (y (J * 16 + s)) m χ (λ ρ i. folded (E i) ρ (J * 16 + s)) (λ ρ i. folded_lt (E i) (bits i) ρ (J * 16 + s))))
      ∙ to_front N m (λ J. (J + 1) * 16) (λ J s ρ i. folded (E i) ρ (J * 16 + s) * byte_product d (y (J * 16 + s)) (byte_product d (W ρ) (χ i)))

  straight_terms : (y W : ℕ → ℕ) → ((c : ℕ) → n ≤ c → c < N * 16 → y c ≡ 0) → ((ρ : ℕ) → n ≤ ρ → ρ < N * 16 → W ρ ≡ 0)
      → xor_sum m (λ i. xor_sum (N * 16) (λ ρ. xor_sum (N * 16) (λ c. E i ρ c * weight y W i ρ c))) ≡ straight d n m E χ y W
  unfolding weight
  straight_terms y W gone none =
      sum_same m _ _ (λ i l.
      sum_same (N * 16) _ (λ ρ. xor_sum n (λ c. E i ρ c * weight y W i ρ c)) (λ ρ k. sum-short n (N * 16) (λ c. E i ρ c * weight y W i ρ c) most (λ c j h.
      ap (λ x. E i ρ c * x) (ap (λ x. byte_product d x (byte_product d (W ρ) (χ i))) (gone c j h) ∙ product-zero d _) ∙ mul-zero (E i ρ c)))
      ∙ sum-short n (N * 16) (λ ρ. xor_sum n (λ c. E i ρ c * weight y W i ρ c)) most (λ ρ j h.
      sum_same n _ (λ c. 0) (λ c k. ap (λ x. E i ρ c * x) (ap (λ x. byte_product d (y c) (byte_product d x (χ i))) (none ρ j h) ∙ ap (byte_product d (y c)) (product-zero d (χ i)) ∙ product_comm d (y c) 0 ∙ product-zero d (y c)) ∙ mul-zero (E i ρ c)) ∙ sum-none n)
      ∙ sum_same n _ (λ ρ. xor_sum n (λ c. E i ρ c * byte_product d (χ i) (byte_product d (W ρ) (y c)))) (λ ρ k. sum_same n _ _ (λ c j. ap (λ x. E i ρ c * x) (product-outer d (y c) (W ρ) (χ i))))
      ∙ sym (product-rows d n W (χ i) n y (E i) (bits i)))

  -- a form
  pub quad-folded : (y : ℕ → ℕ) → ((c : ℕ) → n ≤ c → c < N * 16 → y c ≡ 0) → between d N m E χ y y ≡ straight d n m E χ y y
  unfolding weight
  quad-folded y gone =
      between_terms y y ∙ sum_same m _ _ (λ i l. fold-sum (E i) (weight y y i) (bits i) (λ ρ c. product-left d (y c) (y ρ) (χ i)) N) ∙ straight_terms y y gone gone

  -- a polar form
  pub polar_folded : (y x : ℕ → ℕ) → ((c : ℕ) → n ≤ c → c < N * 16 → y c ≡ 0) → ((c : ℕ) → n ≤ c → c < N * 16 → x c ≡ 0)
      → bit_xor (between d N m E χ y x) (between d N m E χ x y) ≡ bit_xor (straight d n m E χ y x) (straight d n m E χ x y)
  unfolding weight
  polar_folded y x gone none =
      ap₂ bit_xor (between_terms y x) (between_terms x y)
      ∙ sym (sum_both m (λ i. panels N (λ ρ c. folded (E i) ρ c * weight y x i ρ c)) (λ i. panels N (λ ρ c. folded (E i) ρ c * weight x y i ρ c)))
      ∙ sum_same m _ _ (λ i l.
      panels-both N (λ ρ c. folded (E i) ρ c * weight y x i ρ c) (λ ρ c. folded (E i) ρ c * weight x y i ρ c)
      ∙ panels-same N _ (λ ρ c. folded (E i) ρ c * bit_xor (weight y x i ρ c) (weight x y i ρ c)) (λ ρ c. sym (scale_xor (folded (E i) ρ c) (weight y x i ρ c) (weight x y i ρ c) (folded_lt (E i) (bits i) ρ c)))
      ∙ fold-sum (E i) (λ ρ c. bit_xor (weight y x i ρ c) (weight x y i ρ c)) (bits i) (λ ρ c. ap₂ bit_xor (product-left d (y c) (x ρ) (χ i)) (product-left d (x c) (y ρ) (χ i)) ∙ xor_comm (weight x y i c ρ) (weight y x i c ρ)) N
      ∙ sum_same (N * 16) _ (λ ρ. bit_xor (xor_sum (N * 16) (λ c. E i ρ c * weight y x i ρ c)) (xor_sum (N * 16) (λ c. E i ρ c * weight x y i ρ c)))
      (λ ρ k. sum_same (N * 16) _ _ (λ c j. scale_xor (E i ρ c) (weight y x i ρ c) (weight x y i ρ c) (bits i ρ c)) ∙ sum_both (N * 16) (λ c. E i ρ c * weight y x i ρ c) (λ c. E i ρ c * weight x y i ρ c))
      ∙ sum_both (N * 16) (λ ρ. xor_sum (N * 16) (λ c. E i ρ c * weight y x i ρ c)) (λ ρ. xor_sum (N * 16) (λ c. E i ρ c * weight x y i ρ c)))
      ∙ sum_both m (λ i. xor_sum (N * 16) (λ ρ. xor_sum (N * 16) (λ c. E i ρ c * weight y x i ρ c))) (λ i. xor_sum (N * 16) (λ ρ. xor_sum (N * 16) (λ c. E i ρ c * weight x y i ρ c)))
      ∙ ap₂ bit_xor (straight_terms y x gone none) (straight_terms x y none gone)

-- ---- as the code has them

module _ (d N n w m : ℕ) (A : List ℕ) (χ : ℕ → ℕ → ℕ) (e : ℕ) (most : n ≤ N * 16) (y : ℕ → ℕ) (gone : (c : ℕ) → n ≤ c → c < N * 16 → y c ≡ 0) where
  pub form_is : xor_sum N (λ J. xor_sum 16 (λ s. byte_product d (y (J * 16 + s)) (left_sum d w (n * w) m A χ e y J (J * 16 + s)))) ≡ form_sum d n w m A χ e y y
  unfolding batched_byte folded_bit form_sum
  form_is = quad-folded d N n m (λ i. entry w (block_at A (n * w) i)) (χ e) (λ i ρ c. bitOf_lt _ (c % 8)) most y gone

  pub polar_is : (x : ℕ → ℕ) → ((c : ℕ) → n ≤ c → c < N * 16 → x c ≡ 0)
      → bit_xor (xor_sum N (λ J. xor_sum 16 (λ s. byte_product d (y (J * 16 + s)) (left_sum d w (n * w) m A χ e x J (J * 16 + s))))) (xor_sum N (λ J. xor_sum 16 (λ s. byte_product d (x (J * 16 + s)) (left_sum d w (n * w) m A χ e y J (J * 16 + s)))))
      ≡ bit_xor (form_sum d n w m A χ e y x) (form_sum d n w m A χ e x y)
  unfolding batched_byte folded_bit form_sum
  polar_is x none = polar_folded d N n m (λ i. entry w (block_at A (n * w) i)) (χ e) (λ i ρ c. bitOf_lt _ (c % 8)) most y x gone none
