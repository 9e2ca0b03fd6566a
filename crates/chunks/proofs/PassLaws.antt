-- Laws of one pass of the turn: bits of bytes under a mask and moved, the two bytes that it makes of two, and the
-- halves side by side.
-- Assumes nothing.
use mathlib.Core.Path.{◌≡◌, refl, sym, ap, ap₂, ◌∙◌}
use mathlib.Core.List.{List}
use mathlib.Core.Logic.{inl, inr, ⊎_elim}
use Prim.Native.Nat.{ℕ, zero, suc, ◌+◌, ◌*◌, ◌-◌, ◌/◌, ◌%◌, ◌^◌, ◌≤◌, ◌<◌}
use native.Mathlib.Nat.{mul-mod_left, mod-lt, eq-or-lt_of_le, le_of_suc-le-suc}
use native.Mathlib.Decide.{dec_lt, ℕ_discrete}
use native.Mathlib.Numerals.{add-one}
use native.Mathlib.Omega.{arith}
use lib.Bits.{bit_xor, bit_and, and_shr, and_mod, and_zero_r, xor_zero_r, xor_comm}
use lib.Dec.{lit<}
use lib.ListN.{length, set, length-set}
use lib.Pow.{shr-shr, shl-shr}
use lib.Seq.{get_or-set_same, get_or-set_other}
use Rattle.strings.specs.Sums.{byte_at, bit_of}
use Rattle.strings.proofs.Meaning.{bitOf_lt, bitOf_xor, bitOf_zero}
use Rattle.strings.proofs.BitLaws.{kept-bit}
use Rattle.strings.proofs.XorLaws.{xor_cancel}
use Rattle.chunks.specs.Turns.{Step, moved, Exchanged, Passed}

-- ---- bits under a mask, and moved

bitOf_and : (x y p : ℕ) → bit_of (bit_and x y) p ≡ bit_and (bit_of x p) (bit_of y p)
unfolding bit_of
bitOf_and x y p = ap (λ z. z % 2) (and_shr x y p) ∙ and_mod (x / 2 ^ p) (y / 2 ^ p) 1

and_one : (q : ℕ) → q < 2 → bit_and q 1 ≡ q
and_one zero h = refl
and_one (suc zero) h = refl
and_one (suc (suc q)) h = absurd (omega arith)

under_one : (a mask p : ℕ) → bit_of mask p ≡ 1 → bit_of (bit_and a mask) p ≡ bit_of a p
under_one a mask p e = bitOf_and a mask p ∙ ap (bit_and (bit_of a p)) e ∙ and_one (bit_of a p) (bitOf_lt a p)

under_none : (a mask p : ℕ) → bit_of mask p ≡ 0 → bit_of (bit_and a mask) p ≡ 0
under_none a mask p e = bitOf_and a mask p ∙ ap (bit_and (bit_of a p)) e ∙ and_zero_r (bit_of a p)

down : (a s p : ℕ) → bit_of (a / 2 ^ s) p ≡ bit_of a (1 * s + p)
unfolding bit_of
down a s p = let e : s + p ≡ 1 * s + p = omega arith in ap (λ z. z % 2) (shr-shr a s p) ∙ ap (λ k. a / 2 ^ k % 2) e

up : (a s p : ℕ) → s ≤ p → bit_of (a * 2 ^ s) p ≡ bit_of a (p - s)
unfolding bit_of
up a s p h =
    let e : p ≡ s + (p - s) = omega arith in
    ap (λ k. a * 2 ^ s / 2 ^ k % 2) e ∙ ap (λ z. z % 2) (sym (shr-shr (a * 2 ^ s) s (p - s)) ∙ ap (λ z. z / 2 ^ (p - s)) (shl-shr a s))

up_none : (a s p : ℕ) → p < s → bit_of (a * 2 ^ s) p ≡ 0
up_none a s p h = sym (kept-bit (a * 2 ^ s) s p h) ∙ ap (λ z. bit_of z p) (mul-mod_left a (2 ^ s)) ∙ bitOf_zero p

-- ---- what a pass takes of its s and its mask

record Halves (s mask : ℕ) : Type 0 where
  bits : (x : ℕ) → x < 8 → bit_of mask x ≡ 1 - x / s % 2
  below : (x : ℕ) → s ≤ x → (x - s) / s % 2 ≡ 1 - x / s % 2
  inside : (x : ℕ) → x / s % 2 ≡ 1 → s ≤ x

pub eight : (P : ℕ → Type 0) → P 0 → P 1 → P 2 → P 3 → P 4 → P 5 → P 6 → P 7 → (x : ℕ) → x < 8 → P x
eight P p0 p1 p2 p3 p4 p5 p6 p7 zero h = p0
eight P p0 p1 p2 p3 p4 p5 p6 p7 (suc zero) h = p1
eight P p0 p1 p2 p3 p4 p5 p6 p7 (suc (suc zero)) h = p2
eight P p0 p1 p2 p3 p4 p5 p6 p7 (suc (suc (suc zero))) h = p3
eight P p0 p1 p2 p3 p4 p5 p6 p7 (suc (suc (suc (suc zero)))) h = p4
eight P p0 p1 p2 p3 p4 p5 p6 p7 (suc (suc (suc (suc (suc zero))))) h = p5
eight P p0 p1 p2 p3 p4 p5 p6 p7 (suc (suc (suc (suc (suc (suc zero)))))) h = p6
eight P p0 p1 p2 p3 p4 p5 p6 p7 (suc (suc (suc (suc (suc (suc (suc zero))))))) h = p7
eight P p0 p1 p2 p3 p4 p5 p6 p7 (suc (suc (suc (suc (suc (suc (suc (suc x)))))))) h = absurd (omega arith)

halves_4 : Halves 4 15
unfolding bit_of
halves_4 = record {
  bits = eight (λ x. bit_of 15 x ≡ 1 - x / 4 % 2) refl refl refl refl refl refl refl refl;
  below = λ x h. omega arith;
  inside = λ x h. omega arith;
}

halves_2 : Halves 2 51
unfolding bit_of
halves_2 = record {
  bits = eight (λ x. bit_of 51 x ≡ 1 - x / 2 % 2) refl refl refl refl refl refl refl refl;
  below = λ x h. omega arith;
  inside = λ x h. omega arith;
}

halves_1 : Halves 1 85
unfolding bit_of
halves_1 = record {
  bits = eight (λ x. bit_of 85 x ≡ 1 - x / 1 % 2) refl refl refl refl refl refl refl refl;
  below = λ x h. omega arith;
  inside = λ x h. omega arith;
}

halves : (s mask : ℕ) → Step s mask → Halves s mask
halves s mask (inl e) = rw (e.0, e.1) halves_4
halves s mask (inr (inl e)) = rw (e.0, e.1) halves_2
halves s mask (inr (inr e)) = rw (e.0, e.1) halves_1

-- ---- the two bytes that a pass makes of a and b

-- where the second of two equal bits was added
module _ (s mask a b x : ℕ) (of : Halves s mask) (h : x < 8) where
  even_parts : bit_of (bit_xor a (moved s mask a b * 2 ^ s % 2 ^ 8)) x ≡ bit_xor (bit_of a x) (bit_of (moved s mask a b * 2 ^ s) x)
  even_parts = bitOf_xor a (moved s mask a b * 2 ^ s % 2 ^ 8) x ∙ ap (bit_xor (bit_of a x)) (kept-bit (moved s mask a b * 2 ^ s) 8 x h)

  moved-one : (p : ℕ) → bit_of mask p ≡ 1 → bit_of (moved s mask a b) p ≡ bit_xor (bit_of a (1 * s + p)) (bit_of b p)
  moved-one p e = under_one (bit_xor (a / 2 ^ s) b) mask p e ∙ bitOf_xor (a / 2 ^ s) b p ∙ ap (λ z. bit_xor z (bit_of b p)) (down a s p)

  even_first : x / s % 2 ≡ 0 → bit_of (bit_xor a (moved s mask a b * 2 ^ s % 2 ^ 8)) x ≡ bit_of a x
  even_first e = even_parts ∙ ap (bit_xor (bit_of a x)) (go (dec_lt x s)) ∙ xor_zero_r (bit_of a x)
    where
      go : Dec (x < s) → bit_of (moved s mask a b * 2 ^ s) x ≡ 0
      go (yes lt) = up_none (moved s mask a b) s x lt
      go (no ge) =
          let le : s ≤ x = omega arith in
          up (moved s mask a b) s x le ∙ under_none (bit_xor (a / 2 ^ s) b) mask (x - s) (omega (arith, of.bits (x - s) (omega arith), of.below x le))

  even_last : x / s % 2 ≡ 1 → bit_of (bit_xor a (moved s mask a b * 2 ^ s % 2 ^ 8)) x ≡ bit_of b (x - s)
  even_last e =
      let le : s ≤ x = of.inside x e in
      let at : 1 * s + (x - s) ≡ x = omega arith in
      even_parts
      ∙ ap (bit_xor (bit_of a x)) (up (moved s mask a b) s x le ∙ moved-one (x - s) (omega (arith, of.bits (x - s) (omega arith), of.below x le)) ∙ ap (λ p. bit_xor (bit_of a p) (bit_of b (x - s))) at)
      ∙ xor_cancel (bit_of a x) (bit_of b (x - s))

  odd_first : x / s % 2 ≡ 0 → bit_of (bit_xor b (moved s mask a b)) x ≡ bit_of a (1 * s + x)
  odd_first e =
      bitOf_xor b (moved s mask a b) x ∙ ap (bit_xor (bit_of b x)) (moved-one x (omega (arith, of.bits x h)) ∙ xor_comm (bit_of a (1 * s + x)) (bit_of b x))
      ∙ xor_cancel (bit_of b x) (bit_of a (1 * s + x))

  odd_last : x / s % 2 ≡ 1 → bit_of (bit_xor b (moved s mask a b)) x ≡ bit_of b x
  odd_last e =
      bitOf_xor b (moved s mask a b) x ∙ ap (bit_xor (bit_of b x)) (under_none (bit_xor (a / 2 ^ s) b) mask x (omega (arith, of.bits x h))) ∙ xor_zero_r (bit_of b x)

-- ---- a pass, two bytes at a time

halved : (s x : ℕ) (P : ℕ → Type 0) → (x / s % 2 ≡ 0 → P 0) → (x / s % 2 ≡ 1 → P 1) → P (x / s % 2)
halved s x P p0 p1 = go (x / s % 2) refl (mod-lt (x / s) (lit< tt))
  where
    go : (t : ℕ) → x / s % 2 ≡ t → t < 2 → P t
    go zero e l = p0 e
    go (suc zero) e l = p1 e
    go (suc (suc t)) e l = absurd (omega arith)

module _ (s mask j v v' : ℕ) (rows l : List ℕ) (step : Step s mask) (inside : j < 64) (fits : length l ≡ 128)
    (even : v ≡ bit_xor (byte_at rows j) (moved s mask (byte_at rows j) (byte_at rows (64 + j)) * 2 ^ s % 2 ^ 8))
    (odd : v' ≡ bit_xor (byte_at rows (64 + j)) (moved s mask (byte_at rows j) (byte_at rows (64 + j)))) where
  even_bit : (x : ℕ) → x < 8 → bit_of v x ≡ bit_of (byte_at rows (x / s % 2 * 64 + j)) (x + 0 * s - x / s % 2 * s)
  even_bit x h =
      let i : j ≡ 0 * 64 + j = omega arith in
      let p : x ≡ x + 0 * s - 0 * s = omega arith in
      let i' : 64 + j ≡ 1 * 64 + j = omega arith in
      let p' : x - s ≡ x + 0 * s - 1 * s = omega arith in
      ap (λ z. bit_of z x) even
      ∙ halved s x (λ t. bit_of (bit_xor (byte_at rows j) (moved s mask (byte_at rows j) (byte_at rows (64 + j)) * 2 ^ s % 2 ^ 8)) x ≡ bit_of (byte_at rows (t * 64 + j)) (x + 0 * s - t * s))
      (λ e. even_first s mask (byte_at rows j) (byte_at rows (64 + j)) x (halves s mask step) h e ∙ ap₂ (λ k q. bit_of (byte_at rows k) q) i p)
      (λ e. even_last s mask (byte_at rows j) (byte_at rows (64 + j)) x (halves s mask step) h e ∙ ap₂ (λ k q. bit_of (byte_at rows k) q) i' p')

  odd_bit : (x : ℕ) → x < 8 → bit_of v' x ≡ bit_of (byte_at rows (x / s % 2 * 64 + j)) (x + 1 * s - x / s % 2 * s)
  odd_bit x h =
      let i : j ≡ 0 * 64 + j = omega arith in
      let p : 1 * s + x ≡ x + 1 * s - 0 * s = omega arith in
      let i' : 64 + j ≡ 1 * 64 + j = omega arith in
      let p' : x ≡ x + 1 * s - 1 * s = omega arith in
      ap (λ z. bit_of z x) odd
      ∙ halved s x (λ t. bit_of (bit_xor (byte_at rows (64 + j)) (moved s mask (byte_at rows j) (byte_at rows (64 + j)))) x ≡ bit_of (byte_at rows (t * 64 + j)) (x + 1 * s - t * s))
      (λ e. odd_first s mask (byte_at rows j) (byte_at rows (64 + j)) x (halves s mask step) h e ∙ ap₂ (λ k q. bit_of (byte_at rows k) q) i p)
      (λ e. odd_last s mask (byte_at rows j) (byte_at rows (64 + j)) x (halves s mask step) h e ∙ ap₂ (λ k q. bit_of (byte_at rows k) q) i' p')

  own : (y x : ℕ) → y < 2 → x < 8 → bit_of (byte_at (set (set l j v) (64 + j) v') (y * 64 + j)) x ≡ bit_of (byte_at rows (x / s % 2 * 64 + j)) (x + y * s - x / s % 2 * s)
  own zero x hy h =
      let e : 0 * 64 + j ≡ j = omega arith in
      ap (λ k. bit_of (byte_at (set (set l j v) (64 + j) v') k) x) e
      ∙ ap (λ z. bit_of z x) (get_or-set_other (set l j v) (64 + j) j v' 0 (λ e. omega arith) ∙ get_or-set_same l j v 0 (omega arith)) ∙ even_bit x h
  own (suc zero) x hy h =
      let e : 1 * 64 + j ≡ 64 + j = omega arith in
      let fits' : 64 + j < length (set l j v) = omega (arith, length-set l j v) in
      ap (λ k. bit_of (byte_at (set (set l j v) (64 + j) v') k) x) e ∙ ap (λ z. bit_of z x) (get_or-set_same (set l j v) (64 + j) v' 0 fits') ∙ odd_bit x h
  own (suc (suc y)) x hy h = absurd (omega arith)

  pub exchanged_more : Exchanged s rows j l → Exchanged s rows (j + 1) (set (set l j v) (64 + j) v')
  exchanged_more done i y x hi hy h =
      ⊎_elim (λ (e : i ≡ j). rw e (own y x hy h))
      (λ (lt : i < j).
      ap (λ z. bit_of z x) (get_or-set_other (set l j v) (64 + j) (y * 64 + i) v' 0 (λ e. omega arith) ∙ get_or-set_other l j (y * 64 + i) v 0 (λ e. omega arith)) ∙ done i y x lt hy h)
      (eq-or-lt_of_le (le_of_suc-le-suc (rw add-one at hi)))

-- ---- the two halves side by side

module _ (j v v' : ℕ) (rows l : List ℕ) (inside : j < 64) (fits : 128 ≤ length l) (even : v ≡ byte_at rows j) (odd : v' ≡ byte_at rows (64 + j)) where
  pub merged_more : ((i : ℕ) → i < 2 * j → byte_at l i ≡ byte_at rows (i % 2 * 64 + i / 2)) → (i : ℕ) → i < 2 * (j + 1) → byte_at (set (set l (2 * j) v) (2 * j + 1) v') i ≡ byte_at rows (i % 2 * 64 + i / 2)
  merged_more done i hi = go (dec_lt i (2 * j)) (ℕ_discrete i (2 * j))
    where
      go : Dec (i < 2 * j) → Dec (i ≡ 2 * j) → byte_at (set (set l (2 * j) v) (2 * j + 1) v') i ≡ byte_at rows (i % 2 * 64 + i / 2)
      go (yes lt) d = get_or-set_other (set l (2 * j) v) (2 * j + 1) i v' 0 (λ e. omega arith) ∙ get_or-set_other l (2 * j) i v 0 (λ e. omega arith) ∙ done i lt
      go (no ge) (yes e) =
          let at : j ≡ i % 2 * 64 + i / 2 = omega arith in
          get_or-set_other (set l (2 * j) v) (2 * j + 1) i v' 0 (λ e. omega arith) ∙ ap (byte_at (set l (2 * j) v)) e ∙ get_or-set_same l (2 * j) v 0 (omega arith) ∙ even ∙ ap (byte_at rows) at
      go (no ge) (no ne) =
          let e : i ≡ 2 * j + 1 = omega arith in
          let at : 64 + j ≡ i % 2 * 64 + i / 2 = omega arith in
          let fits' : 2 * j + 1 < length (set l (2 * j) v) = omega (arith, length-set l (2 * j) v) in
          ap (byte_at (set (set l (2 * j) v) (2 * j + 1) v')) e ∙ get_or-set_same (set l (2 * j) v) (2 * j + 1) v' 0 fits' ∙ odd ∙ ap (byte_at rows) at

pub pass_is : (s : ℕ) (rows between out : List ℕ) → Exchanged s rows 64 between → ((i : ℕ) → i < 128 → byte_at out i ≡ byte_at between (i % 2 * 64 + i / 2)) → Passed s 64 rows 128 out
pass_is s rows between out exchanged merged i x hi h = ap (λ z. bit_of z x) (merged i hi) ∙ exchanged (i / 2) (i % 2) x (omega arith) (omega arith) h
