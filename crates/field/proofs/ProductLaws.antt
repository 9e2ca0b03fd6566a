-- The product as the code forms it, at any degree: bit after bit of one factor, the other doubled at each, on numbers.
--   still r m n a x s == s plus what the low n bits of a, times x, have yet to add
--   Product r m a b n rest x s == x and s are elements, and s with what n turns still add is a·b
--   Turned r m a b i rest x s == the same of the turns after i, where there are r
--   doubles r m top k x == x moved one place up, with k in place of the bit that falls out above, is X·x
-- Assumes nothing.
use mathlib.Core.Path.{◌≡◌, refl, sym, ap, ap₂, ◌∙◌, subst}
use mathlib.Core.Bool.{Bool}
use Prim.Native.Nat.{ℕ, zero, suc, ◌+◌, ◌*◌, ◌/◌, ◌%◌, ◌^◌, ◌-◌, ◌≤◌, ◌<◌}
use native.Mathlib.Nat.{mod-lt, mod-eq_of_lt, mul-zero, mul-one, not-suc-le-zero}
use native.Mathlib.Omega.{arith}
use lib.Dec.{T, eqb, eqb→eq, lit<}
use lib.Pow.{pow_pos, field, mod-mod-pow}
use lib.Bits.{bit_and, bit_xor, and_mask, and_zero_r, xor_lt}
use Rattle.algebra.specs.Bits.{Bits, add, scale, bit, elem, byte}
use Rattle.algebra.specs.BitField.{xtime, times, mul}
use Rattle.algebra.proofs.BitsLaws.{pair, add_assoc, add-zero, add_zero_r}
use Rattle.algebra.proofs.ByteLaws.{elem_xor, elem-scale, elem-zero, elem-byte, byte-elem, byte_lt}
use Rattle.algebra.proofs.LinearLaws.{times_is}
use Rattle.algebra.proofs.TestLaws.{every_below, every-at}
use Rattle.field.specs.Elements.{moved, doubled_mod, doubles as mod_doubles, Doubles}

-- x under a mask of ones or of zeros is x times a bit
pub mask-times : (q x : ℕ) → q < 2 → x < 256 → bit_and x (q * 255) ≡ x * q
mask-times zero x hq hx = and_zero_r x ∙ sym (mul-zero x)
mask-times (suc zero) x hq hx = and_mask x 8 ∙ mod-eq_of_lt hx ∙ sym (mul-one x)
mask-times (suc (suc q)) x hq hx = absurd (omega arith)

-- what x is below, x times a bit is below
times_lt : (q x n : ℕ) → q < 2 → x < n → x * q < n
times_lt zero x n hq hx = omega arith
times_lt (suc zero) x n hq hx = omega arith
times_lt (suc (suc q)) x n hq hx = absurd (omega arith)

-- an element takes the low bits of its number
pub elem-low : (r x : ℕ) → elem r (x % 2 ^ r) ≡ elem r x
unfolding elem
elem-low zero x = refl
elem-low (suc r) x =
    let e : suc r ≡ r + 1 = omega arith in
    pair r (ap (λ k. bit (x % 2 ^ k % 2)) e ∙ ap bit (mod-mod-pow x r 1))
    (ap (λ k. elem r (x % 2 ^ k / 2)) e ∙ ap (elem r) (field x r 1) ∙ elem-low r (x / 2))

module _ (r : ℕ) (m : Bits r) where
  abbrev still : ℕ → ℕ → Bits r → ℕ → Bits r
  still n a x s = add r (elem r s) (times r m n (elem n a) x)

  abbrev pub Product : ℕ → ℕ → ℕ → ℕ → ℕ → ℕ → Type 0
  Product a b n rest x s = (x < 2 ^ r) × (s < 2 ^ r) × (still n rest (elem r x) s ≡ mul r m (elem r a) (elem r b))

  pub product_start : (a b : ℕ) → Product a b r a (b % 2 ^ r) 0
  unfolding mul
  product_start a b = (
    mod-lt b (pow_pos r),
    pow_pos r,
    ap₂ (λ (s x : Bits r). add r s (times r m r (elem r a) x)) (elem-zero r) (elem-low r b) ∙ add-zero r (times r m r (elem r a) (elem r b)),
  )

  bit-step : (k a x s : ℕ) → still k (a / 2) (xtime r m (elem r x)) (bit_xor s (x * (a % 2))) ≡ still (suc k) a (elem r x) s
  unfolding times elem
  bit-step k a x s =
      ap (λ v. add r v (times r m k (elem k (a / 2)) (xtime r m (elem r x)))) (elem_xor r s (x * (a % 2)) ∙ ap (add r (elem r s)) (elem-scale r x (a % 2) (mod-lt a (lit< tt))))
      ∙ add_assoc r (elem r s) (scale r (bit (a % 2)) (elem r x)) (times r m k (elem k (a / 2)) (xtime r m (elem r x)))
      ∙ ap (add r (elem r s)) (sym (times_is r m k (elem (suc k) a) (elem r x)))

  still-step : (n a x s : ℕ) → 0 < n → still (n - 1) (a / 2) (xtime r m (elem r x)) (bit_xor s (x * (a % 2))) ≡ still n a (elem r x) s
  still-step zero a x s h = absurd (not-suc-le-zero h)
  still-step (suc k) a x s h = let e : suc k - 1 ≡ k = omega arith in rw e (bit-step k a x s)

  -- a turn: y is what it adds, z is x doubled
  pub product-step : (a b n rest x s y z : ℕ) → 0 < n → y ≡ x * (rest % 2) → z ≡ byte r (xtime r m (elem r x)) → Product a b n rest x s → Product a b (n - 1) (rest / 2) z (bit_xor s y)
  product-step a b n rest x s y z h added doubled p =
      let two : 0 < 2 = lit< tt in (
        subst (λ v. v < 2 ^ r) (sym doubled) (byte_lt r (xtime r m (elem r x))),
        xor_lt r s y p.1 (subst (λ v. v < 2 ^ r) (sym added) (times_lt (rest % 2) x (2 ^ r) (mod-lt rest two) p.0)),
        ap₂ (λ (v : Bits r) (w : ℕ). still (n - 1) (rest / 2) v (bit_xor s w)) (ap (elem r) doubled ∙ elem-byte r (xtime r m (elem r x))) added
            ∙ still-step n rest x s h ∙ p.2,
      )

  still-end : (n a : ℕ) (x : Bits r) (s : ℕ) → n ≤ 0 → still n a x s ≡ elem r s
  unfolding times
  still-end zero a x s h = add_zero_r r (elem r s)
  still-end (suc k) a x s h = absurd (not-suc-le-zero h)

  pub product-end : (a b n rest x s : ℕ) → n ≤ 0 → Product a b n rest x s → s ≡ byte r (mul r m (elem r a) (elem r b))
  product-end a b n rest x s h p = sym (byte-elem r s p.1) ∙ ap (byte r) (sym (still-end n rest (elem r x) s h) ∙ p.2)

  -- the same by the turns that are done

  abbrev pub Turned : ℕ → ℕ → ℕ → ℕ → ℕ → ℕ → Type 0
  Turned a b i rest x s = Product a b (r - i) rest x s

  pub turned_start : (a b : ℕ) → Turned a b 0 a (b % 2 ^ r) 0
  turned_start a b = let e : r ≡ r - 0 = omega arith in subst (λ n. Product a b n a (b % 2 ^ r) 0) e (product_start a b)

  pub turned-step : (a b i rest x s y z : ℕ) → i < r → y ≡ x * (rest % 2) → z ≡ byte r (xtime r m (elem r x)) → Turned a b i rest x s → Turned a b (i + 1) (rest / 2) z (bit_xor s y)
  turned-step a b i rest x s y z h added doubled p =
      let e : r - i - 1 ≡ r - (i + 1) = omega arith in
      subst (λ n. Product a b n (rest / 2) z (bit_xor s y)) e (product-step a b (r - i) rest x s y z (omega arith) added doubled p)

  pub turned-end : (a b i rest x s : ℕ) → r ≤ i → Turned a b i rest x s → s ≡ byte r (mul r m (elem r a) (elem r b))
  turned-end a b i rest x s h p = product-end a b (r - i) rest x s (omega arith) p

  -- ---- x doubled: a test at each element

  unfoldable pub doubles : ℕ → ℕ → ℕ → Bool
  doubles top k x = eqb (bit_xor (x % top * 2) (k * (x / top))) (byte r (xtime r m (elem r x)))

  pub doubled : (top k x : ℕ) → T (every_below (2 ^ r) (doubles top k)) → x < 2 ^ r → bit_xor (x % top * 2) (k * (x / top)) ≡ byte r (xtime r m (elem r x))
  unfolding doubles
  doubled top k x t h = eqb→eq (bit_xor (x % top * 2) (k * (x / top))) (byte r (xtime r m (elem r x))) (every-at (2 ^ r) (doubles top k) t x h)

-- by the field's test, of a polynomial that is a number
pub doubled_moved : (r m x : ℕ) → Doubles r m → x < 2 ^ r → moved r m x ≡ doubled_mod r m x
unfolding Doubles mod_doubles doubles
doubled_moved r m x t h = doubled r (elem r m) (2 ^ (r - 1)) (m % 2 ^ r) x t h
