-- Lanes held with each bit changed: sums, rotations, ands and ors of them.
-- Assumes nothing.
use mathlib.Core.Path.{◌≡◌, refl, sym, ap, ap₂, ◌∙◌}
use mathlib.Core.Bool.{Bool, true, false}
use Prim.Native.Nat.{ℕ, zero, suc, ◌+◌, ◌*◌, ◌/◌, ◌%◌, ◌-◌, ◌^◌, ◌<◌}
use native.Mathlib.Nat.{mod-eq_of_lt, mod-lt, add-mul, one-mul, mul_assoc}
use native.Mathlib.Omega.{arith}
use lib.Bits.{bit_xor, bit_and, bit_or, xor_comm, or_lt, xor_self, xor_zero_r, xor_add_and, or_add_and, or_shifted, and_mask, or_comm}
use lib.Pow.{pow-add, pow_pos, split, low, high, shl_lt, shr_lt}
use Rattle.sponge.specs.Lanes.{rotated, complement}
use Rattle.keccak.specs.Flags.{ones, flag}
use Rattle.strings.proofs.XorLaws.{xor_assoc}

-- either, and not both
abbrev pub differs : Bool → Bool → Bool
differs false q = q
differs true false = true
differs true true = false

pub other_is : (x : ℕ) → x < 2 ^ 64 → bit_xor x ones ≡ ones - x
other_is x h =
    let m : bit_and x ones ≡ x = and_mask x 64 ∙ mod-eq_of_lt h in
    omega (arith, xor_add_and x ones, m)

pub twice : (x : ℕ) → bit_xor (bit_xor x ones) ones ≡ x
twice x = xor_assoc x ones ones ∙ ap (bit_xor x) (xor_self ones) ∙ xor_zero_r x

pub past : (x y : ℕ) → bit_xor (bit_xor x ones) y ≡ bit_xor (bit_xor x y) ones
past x y = xor_assoc x ones y ∙ ap (bit_xor x) (xor_comm ones y) ∙ sym (xor_assoc x y ones)

pub flag-twice : (p : Bool) (x : ℕ) → flag p (flag p x) ≡ x
unfolding flag
flag-twice false x = refl
flag-twice true x = twice x

pub flag-sum : (p q : Bool) (x y : ℕ) → bit_xor (flag p x) (flag q y) ≡ flag (differs p q) (bit_xor x y)
unfolding flag
flag-sum false false x y = refl
flag-sum false true x y = sym (xor_assoc x y ones)
flag-sum true false x y = past x y
flag-sum true true x y = past x (bit_xor y ones) ∙ ap (λ z. bit_xor z ones) (sym (xor_assoc x y ones)) ∙ twice (bit_xor x y)

pub other_lt : (x : ℕ) → x < 2 ^ 64 → bit_xor x ones < 2 ^ 64
other_lt x h = omega (arith, other_is x h)

-- ---- rotations

-- a rotation by r of j + r bits, as a number
rotation_is : (j r x : ℕ) → x < 2 ^ (j + r) → bit_or (x * 2 ^ r % 2 ^ (j + r)) (x / 2 ^ j) ≡ x % 2 ^ j * 2 ^ r + x / 2 ^ j
rotation_is j r x h =
    let p = 2 ^ j in
    let l = x % 2 ^ j in
    let e : x * 2 ^ r ≡ x / 2 ^ j * 2 ^ (j + r) + l * 2 ^ r =
    ap (λ y. y * 2 ^ r) (sym (split x j)) ∙ add-mul (x / 2 ^ j * 2 ^ j) l (2 ^ r) ∙ ap (λ y. y + l * 2 ^ r) (mul_assoc (x / 2 ^ j) (2 ^ j) (2 ^ r) ∙ ap (λ y. x / 2 ^ j * y) (sym (pow-add 2 j r))) in
    let c : x * 2 ^ r % 2 ^ (j + r) ≡ l * 2 ^ r = ap (λ y. y % 2 ^ (j + r)) e ∙ low (x / 2 ^ j) (j + r) (shl_lt j r (mod-lt x (pow_pos j))) in
    let k : j + r ≡ r + j = omega arith in
    let s : x < 2 ^ (r + j) = rw (sym k) h in
    ap (λ y. bit_or y (x / 2 ^ j)) c ∙ or_shifted l r (x / 2 ^ j) (shr_lt r j s)

all_of : (a b c n : ℕ) → a + b + 1 ≡ c → a * n + b * n + n ≡ c * n
all_of a b c n e = omega (arith, ap (λ k. k * n) e, add-mul (a + b) 1 n, add-mul a b n, one-mul n)

abbrev rotation : ℕ → ℕ → ℕ → ℕ
rotation j r x = bit_or (x * 2 ^ r % 2 ^ (j + r)) (x / 2 ^ j)

-- the rotation of a lane with each bit changed
rotation-other : (j r x : ℕ) → j + r ≡ 64 → x < 2 ^ 64 → rotation j r (bit_xor x ones) ≡ bit_xor (rotation j r x) ones
rotation-other j r x s h =
    let w : 2 ^ (j + r) ≡ 2 ^ 64 = ap (λ k. 2 ^ k) s in
    let hj : x < 2 ^ (j + r) = rw w h in
    let k : r + j ≡ 64 = omega arith in
    let hi = x / 2 ^ j in
    let lo = x % 2 ^ j in
    let hh : hi < 2 ^ r = shr_lt r j (rw (ap (λ k. 2 ^ k) k) h) in
    let hl : lo < 2 ^ j = mod-lt x (pow_pos j) in
    let y = ones - x in
    let a : 2 ^ r - 1 - hi + hi + 1 ≡ 2 ^ r = omega arith in
    let b : 2 ^ j - 1 - lo + lo + 1 ≡ 2 ^ j = omega arith in
    let wj : 2 ^ r * 2 ^ j ≡ 2 ^ 64 = sym (pow-add 2 r j) ∙ ap (λ k. 2 ^ k) k in
    let wr : 2 ^ j * 2 ^ r ≡ 2 ^ 64 = sym (pow-add 2 j r) ∙ w in
    let is : y ≡ (2 ^ r - 1 - hi) * 2 ^ j + (2 ^ j - 1 - lo) = omega (arith, all_of (2 ^ r - 1 - hi) hi (2 ^ r) (2 ^ j) a, split x j, wj) in
    let ll : 2 ^ j - 1 - lo < 2 ^ j = omega arith in
    let yh : y / 2 ^ j ≡ 2 ^ r - 1 - hi = ap (λ z. z / 2 ^ j) is ∙ high (2 ^ r - 1 - hi) j ll in
    let yl : y % 2 ^ j ≡ 2 ^ j - 1 - lo = ap (λ z. z % 2 ^ j) is ∙ low (2 ^ r - 1 - hi) j ll in
    let hy : y < 2 ^ (j + r) = rw w (omega arith) in
    let tx : rotation j r x ≡ lo * 2 ^ r + hi = rotation_is j r x hj in
    let ty : rotation j r y ≡ (2 ^ j - 1 - lo) * 2 ^ r + (2 ^ r - 1 - hi) = rotation_is j r y hy ∙ ap₂ (λ c d. c * 2 ^ r + d) yl yh in
    let sum = all_of (2 ^ j - 1 - lo) lo (2 ^ j) (2 ^ r) b in
    let small : rotation j r x < 2 ^ 64 = omega (arith, tx, sum, wr) in
    ap (rotation j r) (other_is x h) ∙ (let e : rotation j r y ≡ ones - rotation j r x = omega (arith, tx, ty, sum, wr) in e) ∙ sym (other_is (rotation j r x) small)

pub flag-rotated : (p : Bool) (x r : ℕ) → r < 64 → x < 2 ^ 64 → rotated (flag p x) r ≡ flag p (rotated x r)
unfolding flag rotated
flag-rotated false x r l h = refl
flag-rotated true x zero l h = refl
flag-rotated true x (suc r) l h =
    let s : 64 - suc r + suc r ≡ 64 = omega arith in
    ap (λ k. bit_or (bit_xor x ones * 2 ^ suc r % 2 ^ k) (bit_xor x ones / 2 ^ (64 - suc r))) (sym s)
    ∙ rotation-other (64 - suc r) (suc r) x s h
    ∙ ap (λ k. bit_xor (bit_or (x * 2 ^ suc r % 2 ^ k) (x / 2 ^ (64 - suc r))) ones) s

-- ---- the product of χ

module _ (b c : ℕ) (hb : b < 2 ^ 64) (hc : c < 2 ^ 64) where
  both : bit_and (bit_xor b ones) (bit_xor c ones) ≡ bit_xor (bit_or b c) ones
  both =
      let x : bit_xor (bit_xor b ones) (bit_xor c ones) ≡ bit_xor b c = past b (bit_xor c ones) ∙ ap (λ z. bit_xor z ones) (sym (xor_assoc b c ones)) ∙ twice (bit_xor b c) in
      let small : bit_or b c < 2 ^ 64 = or_lt 64 b c hb hc in
      omega (arith, xor_add_and (bit_xor b ones) (bit_xor c ones), x, xor_add_and b c, or_add_and b c, other_is b hb, other_is c hc, other_is (bit_or b c) small)

  not_b : complement b ≡ bit_xor b ones
  unfolding complement
  not_b = sym (other_is b hb)

  back : complement (bit_xor b ones) ≡ b
  unfolding complement
  back = let e : ones - bit_xor b ones ≡ b = omega (arith, other_is b hb) in e

  pub t10 : bit_and (complement (flag true b)) (flag false c) ≡ flag false (bit_and b c)
  unfolding flag
  t10 = ap (λ z. bit_and z c) back

  pub t00 : bit_and (complement (flag false b)) (flag false c) ≡ flag false (bit_and (bit_xor b ones) c)
  unfolding flag
  t00 = ap (λ z. bit_and z c) not_b

  pub t01 : bit_and (complement (flag false b)) (flag true c) ≡ flag true (bit_or b c)
  unfolding flag
  t01 = ap (λ z. bit_and z (bit_xor c ones)) not_b ∙ both

module _ (b c : ℕ) (hb : b < 2 ^ 64) (hc : c < 2 ^ 64) where
  pub t00n : bit_and (complement (flag false b)) (flag false c) ≡ flag true (bit_or b (bit_xor c ones))
  unfolding flag
  t00n = ap₂ bit_and (not_b b c hb hc) (sym (twice c)) ∙ both b (bit_xor c ones) hb (other_lt c hc)

  pub t11n : bit_and (complement (flag true b)) (flag true c) ≡ flag true (bit_or c (bit_xor b ones))
  unfolding flag
  t11n =
      ap (λ z. bit_and z (bit_xor c ones)) (back b c hb hc ∙ sym (twice b)) ∙ both (bit_xor b ones) c (other_lt b hb) hc
      ∙ ap (λ z. bit_xor z ones) (or_comm (bit_xor b ones) c)

module _ (w p n : Bool) (a u t : ℕ) (e : t ≡ flag n u) where
  pub sum_is : flag w (bit_xor (flag p a) t) ≡ flag w (flag (differs p n) (bit_xor a u))
  sum_is = ap (λ z. flag w (bit_xor (flag p a) z)) e ∙ ap (flag w) (flag-sum p n a u)
