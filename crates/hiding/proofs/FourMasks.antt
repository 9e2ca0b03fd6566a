-- Four symbols times α^0 to α^3 write each element of GF(256) in one way: the law of masks, for symbols.
-- A symbol is a bit plus a bit times ω. So the sum is one of eight bits times α^0, α^0·ω, α^1, α^1·ω and so on, which
-- are a basis with a dual, as is computed.
-- Assumes nothing.
use mathlib.Core.Path.{◌≡◌, refl, sym, ap, ap₂, ◌∙◌}
use mathlib.Core.Bool.{Bool, true, false, cond}
use mathlib.Core.List.{[], ◌∷◌}
use Prim.Native.Nat.{ℕ, zero, suc, ◌+◌, ◌*◌, ◌/◌, ◌%◌, ◌<◌}
use native.Mathlib.Omega.{arith}
use lib.Dec.{eqb, lit<}
use lib.ListN.{get_or}
use Rattle.algebra.specs.Ring.{Ring}
use Rattle.algebra.specs.Count.{indicator}
use Rattle.algebra.specs.Sum.{sum, power}
use Rattle.algebra.specs.Bits.{Bits, unit, scale, elem, bit}
use Rattle.algebra.specs.BitField.{computing}
use Rattle.algebra.proofs.RingLaws.{mul-zero}
use Rattle.algebra.proofs.SumLaws.{sum_ext}
use Rattle.galois.specs.Gf256.{gf256, modulus, passes}
use Rattle.protocol.specs.Quaternary.{symbol_byte, fours256}
use Rattle.protocol.specs.Forms.{α}
use Rattle.theorems.proofs.TestLaws.{eqb_same, eqb-other}
use Rattle.theorems.proofs.QuaternaryLaws.{by-four, halves}
use Rattle.hiding.specs.Masks.{OneMask, mask_sum}
use Rattle.hiding.proofs.BasisLaws.{bit_at, spelled, Dual, spells, tells, mul-scale}

abbrev R : Ring
R = gf256.base.R

abbrev F : Type 0
F = gf256.base.R.F

abbrev embed : ℕ → F
embed x = gf256.elem (symbol_byte x)

abbrev ω : F
ω = elem 8 0xBC

abbrev powers : ℕ → F
powers i = power R (elem 8 2) i

-- ---- what comes in pairs, one at 2i and one at 2i + 1

unfoldable paired : {X : Type 0} → (ℕ → X) → (ℕ → X) → ℕ → X
paired f g b = cond (eqb (b % 2) 0) (f (b / 2)) (g (b / 2))

first : {X : Type 0} (f g : ℕ → X) (i : ℕ) → paired f g (2 * i) ≡ f i
unfolding paired
first f g i =
    let d : 2 * i / 2 ≡ i = omega arith in
    ap (λ c. cond c (f (2 * i / 2)) (g (2 * i / 2))) (eqb_same (2 * i % 2) 0 (omega arith)) ∙ ap f d

second : {X : Type 0} (f g : ℕ → X) (i : ℕ) → paired f g (2 * i + 1) ≡ g i
unfolding paired
second f g i =
    let d : (2 * i + 1) / 2 ≡ i = omega arith in
    ap (λ c. cond c (f ((2 * i + 1) / 2)) (g ((2 * i + 1) / 2))) (eqb-other ((2 * i + 1) % 2) 0 (omega arith)) ∙ ap g d

sum-pairs : (n : ℕ) (g : ℕ → F) → sum R (2 * n) g ≡ sum R n (λ i. R.add (g (2 * i)) (g (2 * i + 1)))
sum-pairs zero g = refl
sum-pairs (suc n) g =
    let e : 2 * suc n ≡ suc (suc (2 * n)) = omega arith in
    let o : suc (2 * n) ≡ 2 * n + 1 = omega arith in
    ap (λ k. sum R k g) e ∙ R.add_assoc (sum R (2 * n) g) (g (2 * n)) (g (suc (2 * n))) ∙ ap₂ (λ a k. R.add a (R.add (g (2 * n)) (g k))) (sum-pairs n g) o

-- ---- the basis

unfoldable basis : ℕ → F
basis = paired powers (λ i. R.mul (powers i) ω)

unfoldable dual : ℕ → F
dual b = elem 8 (get_or (0x01 ∷ 0x04 ∷ 0x10 ∷ 0x40 ∷ 0x6B ∷ 0xC7 ∷ 0xCA ∷ 0xFE ∷ []) b 0)

duals : Dual 8 (elem 8 modulus) passes basis dual
unfolding computing power bit_at spelled paired basis dual
duals = record { there? = tt; back? = tt }

-- ---- a symbol by its bits, and back

joined : Bool → Bool → F
joined c d = R.add (scale 8 c (unit 8)) (scale 8 d ω)

is_joined : (x : ℕ) → x < 4 → embed x ≡ joined (bit (x % 2)) (bit (x / 2))
unfolding computing symbol_byte joined
is_joined = by-four (λ x. embed x ≡ joined (bit (x % 2)) (bit (x / 2))) refl refl refl refl

unfoldable number : Bool → Bool → ℕ
number c d = indicator c + 2 * indicator d

number_lt : (c d : Bool) → number c d < 4
unfolding number
number_lt true true = lit< tt
number_lt true false = lit< tt
number_lt false true = lit< tt
number_lt false false = lit< tt

number-low : (c d : Bool) → bit (number c d % 2) ≡ c
unfolding number bit
number-low true true = refl
number-low true false = refl
number-low false true = refl
number-low false false = refl

number-high : (c d : Bool) → bit (number c d / 2) ≡ d
unfolding number bit
number-high true true = refl
number-high true false = refl
number-high false true = refl
number-high false false = refl

-- the bits of symbols x, and the symbols with the bits v
abbrev bits_of : (ℕ → ℕ) → ℕ → Bool
bits_of x = paired (λ i. bit (x i % 2)) (λ i. bit (x i / 2))

symbols_of : Bits 8 → ℕ → ℕ
symbols_of v i = number (bit_at 8 v (2 * i)) (bit_at 8 v (2 * i + 1))

bits_back : (v : Bits 8) (b : ℕ) → bits_of (symbols_of v) b ≡ bit_at 8 v b
unfolding symbols_of
bits_back v =
    halves (λ b. bits_of (symbols_of v) b ≡ bit_at 8 v b)
    (λ c. first (λ i. bit (symbols_of v i % 2)) (λ i. bit (symbols_of v i / 2)) c ∙ number-low (bit_at 8 v (2 * c)) (bit_at 8 v (2 * c + 1)))
    (λ c. second (λ i. bit (symbols_of v i % 2)) (λ i. bit (symbols_of v i / 2)) c ∙ number-high (bit_at 8 v (2 * c)) (bit_at 8 v (2 * c + 1)))

symbols_lt : (v : Bits 8) (i : ℕ) → symbols_of v i < 4
unfolding symbols_of
symbols_lt v i = number_lt (bit_at 8 v (2 * i)) (bit_at 8 v (2 * i + 1))

-- ---- a mask is a sum of eight bits times the basis

scale-mul : (a y : F) (c : Bool) → R.mul a (scale 8 c y) ≡ scale 8 c (R.mul a y)
unfolding scale
scale-mul a y true = refl
scale-mul a y false = mul-zero R a

module _ (f : ℕ → F) (x : ℕ → ℕ) (l : (i : ℕ) → x i < 4) (h : (i : ℕ) → f i ≡ embed (x i)) where
  low : ℕ → Bool
  low i = bit (x i % 2)

  high : ℕ → Bool
  high i = bit (x i / 2)

  term : (i : ℕ) → R.mul (powers i) (f i) ≡ R.add (scale 8 (bits_of x (2 * i)) (basis (2 * i))) (scale 8 (bits_of x (2 * i + 1)) (basis (2 * i + 1)))
  unfolding joined basis low high
  term i =
      ap (λ (z : F). R.mul (powers i) z) (h i ∙ is_joined (x i) (l i))
      ∙ R.mul-add (powers i) (scale 8 (low i) (unit 8)) (scale 8 (high i) ω)
      ∙ ap₂ R.add (mul-scale 8 (elem 8 modulus) passes (powers i) (low i)) (scale-mul (powers i) ω (high i))
      ∙ sym (ap₂ R.add
      (ap₂ (scale 8) (first low high i) (first powers (λ i. R.mul (powers i) ω) i))
      (ap₂ (scale 8) (second low high i) (second powers (λ i. R.mul (powers i) ω) i)))

  mask_is : mask_sum fours256 f ≡ sum R 8 (λ b. scale 8 (bits_of x b) (basis b))
  unfolding α
  mask_is = sum_ext R 4 _ _ term ∙ sym (sum-pairs 4 (λ b. scale 8 (bits_of x b) (basis b)))

written : F → ℕ → ℕ
written a = symbols_of (spelled 8 (elem 8 modulus) passes dual a)

written-sum : (a : F) → mask_sum fours256 (λ i. embed (written a i)) ≡ a
unfolding written
written-sum a =
    let v = spelled 8 (elem 8 modulus) passes dual a in
    mask_is (λ i. embed (symbols_of v i)) (symbols_of v) (symbols_lt v) (λ i. refl)
    ∙ sum_ext R 8 _ _ (λ b. ap (λ (c : Bool). scale 8 c (basis b)) (bits_back v b))
    ∙ spells 8 (elem 8 modulus) passes basis dual duals a

written_lt : (a : F) (i : ℕ) → written a i < 4
unfolding written
written_lt a i = symbols_lt (spelled 8 (elem 8 modulus) passes dual a) i

-- symbols with the same bits are the same
same_symbol : (x y : ℕ → ℕ) (i : ℕ) → x i < 4 → y i < 4 → bits_of x (2 * i) ≡ bits_of y (2 * i) → bits_of x (2 * i + 1) ≡ bits_of y (2 * i + 1) → embed (x i) ≡ embed (y i)
same_symbol x y i l k e g =
    is_joined (x i) l
    ∙ ap₂ joined
    (sym (first (λ i. bit (x i % 2)) (λ i. bit (x i / 2)) i) ∙ e ∙ first (λ i. bit (y i % 2)) (λ i. bit (y i / 2)) i)
    (sym (second (λ i. bit (x i % 2)) (λ i. bit (x i / 2)) i) ∙ g ∙ second (λ i. bit (y i % 2)) (λ i. bit (y i / 2)) i)
    ∙ sym (is_joined (y i) k)

pub fours-mask : OneMask fours256
fours-mask = record {
  some-mask = λ a. (λ i. embed (written a i), λ i. (written a i, written_lt a i, refl), written-sum a);
  same-mask = λ f g j k e i l.
      let x : ℕ → ℕ = λ i. (j i).0 in
      let y : ℕ → ℕ = λ i. (k i).0 in
      let same : (b : ℕ) → b < 8 → bits_of x b ≡ bits_of y b =
      tells 8 (elem 8 modulus) passes basis dual duals (bits_of x) (bits_of y)
      (sym (mask_is f x (λ i. (j i).1) (λ i. (j i).2)) ∙ e ∙ mask_is g y (λ i. (k i).1) (λ i. (k i).2)) in
      (j i).2 ∙ same_symbol x y i (j i).1 (k i).1 (same (2 * i) (omega arith)) (same (2 * i + 1) (omega arith)) ∙ sym (k i).2;
}
