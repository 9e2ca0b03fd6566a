-- All strings of a length over a field: how many, each once, and how many pass a test of each letter.
-- Assumes nothing.
use mathlib.Core.Path.{◌≡◌}
use mathlib.Core.Logic.{◌⊎◌, inl, inr}
use mathlib.Core.Bool.{Bool}
use mathlib.Core.List.{List}
use Prim.Native.Nat.{ℕ, zero, suc, ◌^◌, ◌≤◌, ◌<◌}
use native.Mathlib.Nat.{mul-le-mul, pow-succ', zero-lt-suc}
use native.Mathlib.Decide.{dec_lt}
use native.Mathlib.Omega.{arith}
use lib.ListN.{length}
use Rattle.algebra.specs.Count.{count, same, passes, product}
use Rattle.algebra.specs.Field.{Field}
use Rattle.algebra.specs.Strings.{strings}
use Rattle.algebra.proofs.CountLaws.{length-words, words_once, count-words}

-- a product above 2 ^ n has a factor above 2
pub above : (n : ℕ) (f : ℕ → ℕ) (Q : ℕ → Type 0) → ((e : ℕ) → Q e ⊎ (f e ≤ 2)) → 2 ^ n < product n f → (e : ℕ) × (e < n) × Q e
above zero f Q h k = absurd (omega arith)
above (suc n) f Q h k = go (h 0) (dec_lt (2 ^ n) (product n (λ e. f (suc e)))) (above n (λ e. f (suc e)) (λ e. Q (suc e)) (λ e. h (suc e)))
  where
    go : Q 0 ⊎ (f 0 ≤ 2) → Dec (2 ^ n < product n (λ e. f (suc e)))
        → (2 ^ n < product n (λ e. f (suc e)) → (e : ℕ) × (e < n) × Q (suc e)) → (e : ℕ) × (e < suc n) × Q e
    go (inl z) d r = (0, zero-lt-suc n, z)
    go (inr l) (yes g) r = let t = r g in (suc t.0, omega (arith, t.1), t.2)
    go (inr l) (no g) r = absurd (omega (arith, mul-le-mul l (let b : product n (λ e. f (suc e)) ≤ 2 ^ n = omega arith in b), pow-succ' 2 n))

module _ (K : Field) where
  open K use {R, eqb, elements, size}
  open R use {F}

  -- there are size^n strings, and each string of length n is one of them, once
  pub strings-length : (n : ℕ) → length (strings K n) ≡ size ^ n
  strings-length n = rw (length-words, K.elements-length)

  pub strings_once : (n : ℕ) (s : List F) → length s ≡ n → count (same eqb s) (strings K n) ≡ 1
  strings_once n s h = rw (← h) (words_once eqb elements K.elements_once s)

  -- tests of letter after letter: the counts multiply
  pub accepted : (n : ℕ) (P : ℕ → F → Bool) → count (passes P) (strings K n) ≡ product n (λ e. count (P e) elements)
  accepted n P = count-words elements n P
