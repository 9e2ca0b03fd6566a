-- The size of a field is a power of 2, at least 4 and at most as many as the bytes; and x moved one place up, on numbers
-- of the size in place of powers.
-- Assumes nothing.
use mathlib.Core.Path.{◌≡◌, ◌∙◌, ap₂}
use Prim.Native.Nat.{ℕ, zero, suc, ◌*◌, ◌/◌, ◌%◌, ◌^◌, ◌-◌, ◌≤◌, ◌<◌}
use native.Mathlib.Nat.{mod-lt}
use native.Mathlib.Omega.{arith}
use lib.Bits.{bit_xor}
use lib.Pow.{pow_mono}
use Rattle.std.proofs.Math.Nat.{pow-suc, div-lt_iff_lt-mul}
use Rattle.algebra.specs.Coded.{Coded}
use Rattle.field.specs.Elements.{moved}

half : (r n : ℕ) → n ≡ 2 ^ r → 4 ≤ n → n / 2 ≡ 2 ^ (r - 1)
half zero n e h = absurd (omega arith)
half (suc r) n e h = let k : suc r - 1 ≡ r = omega arith in let p = pow-suc 2 r in rw k (omega arith)

size-most : (C : Coded) → C.base.size ≤ 256
size-most C = let h : 2 ^ C.degree ≤ 2 ^ 8 = pow_mono C.degree≤8 in let e = C.size_is in omega arith

size-even : (r n : ℕ) → n ≡ 2 ^ r → 4 ≤ n → n ≡ n / 2 * 2
size-even zero n e h = absurd (omega arith)
size-even (suc r) n e h = let p = pow-suc 2 r in omega arith

module _ (C : Coded) (n : ℕ) (is : n ≡ C.base.size) where
  pub top_pos : 0 < n / 2
  top_pos = let h = C.base.four≤size in omega arith

  pub moved-fits : (x : ℕ) → x % (n / 2) * 2 < 256
  moved-fits x = let m = mod-lt x top_pos in let h = size-most C in omega arith

  pub added-fits : (k : ℕ) → k % n < 256
  added-fits k = let p : 0 < n = omega (arith, top_pos) in let m = mod-lt k p in let h = size-most C in omega arith

  pub top-bit : (x : ℕ) → x < n → x / (n / 2) < 2
  top-bit x h = let e = size-even C.degree n (is ∙ C.size_is) (omega (arith, C.base.four≤size)) in (div-lt_iff_lt-mul top_pos).1 (omega arith)

  -- as the code has it
  pub moved-is : (m x : ℕ) → bit_xor (x % (n / 2) * 2) (m % n * (x / (n / 2))) ≡ moved C.degree m x
  moved-is m x =
      let e = is ∙ C.size_is in
      ap₂ (λ t k. bit_xor (x % t * 2) (m % k * (x / t))) (half C.degree n e (omega (arith, C.base.four≤size))) e
