-- The mask element as the code forms it, at any degree: a number k moved s places up, in a byte. The code moves 1.
--   weighs C k s == k moved s places up is the mask element
-- Assumes nothing.
use mathlib.Core.Path.{◌≡◌}
use mathlib.Core.Bool.{Bool}
use Prim.Native.Nat.{ℕ, ◌*◌, ◌%◌, ◌^◌, ◌≤◌, ◌<◌}
use borrow.Author.Tests.{le-ltb, lt-ltb}
use lib.Dec.{T, eqb, eqb→eq}
use Rattle.algebra.specs.Coded.{Coded, pow_byte}
use Rattle.algebra.proofs.TestLaws.{every_below, every-at}
use Rattle.field.specs.Elements.{mask_of, in_place, weighs as one_weighs, Weighs}

unfoldable pub weighs : Coded → ℕ → ℕ → Bool
weighs C k s = eqb ((k * 2 ^ s) % 2 ^ 8) (mask_of C s)

-- a test at each number below the degree
pub mask_low : (C : Coded) (k s : ℕ) → T (every_below C.degree (weighs C k)) → s < C.degree → (k * 2 ^ s) % 2 ^ 8 ≡ mask_of C s
unfolding weighs
mask_low C k s t h = eqb→eq ((k * 2 ^ s) % 2 ^ 8) (mask_of C s) (every-at C.degree (weighs C k) t s h)

-- of 1, by the field's test
pub mask_in_place : (C : Coded) (s : ℕ) → Weighs C → s < C.degree → in_place s ≡ mask_of C s
unfolding Weighs one_weighs
mask_in_place C s t h = rw (lt-ltb s C.degree h) (eqb→eq (in_place s) (pow_byte C 2 s) (every-at C.degree (one_weighs C) t s h))

pub mask-past : (C : Coded) (s : ℕ) → C.degree ≤ s → 0 ≡ mask_of C s
mask-past C s h = rw (le-ltb s C.degree h)
