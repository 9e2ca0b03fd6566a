-- The product of two rows of bits is that of any field of characteristic 2, and is a bit; and how a number's bits go
-- apart into the first and the others.
-- Assumes nothing.
use mathlib.Core.Path.{◌≡◌, sym, ap, ◌∙◌}
use mathlib.Core.List.{List}
use Prim.Native.Nat.{ℕ, zero, suc, ◌+◌, ◌*◌, ◌/◌, ◌%◌, ◌^◌, ◌<◌}
use native.Mathlib.Nat.{div-one}
use native.Mathlib.Omega.{arith}
use lib.Dec.{lit<}
use lib.Pow.{shr-shr}
use Rattle.algebra.specs.Coded.{Coded}
use Rattle.algebra.specs.Sum.{sum}
use Rattle.protocol.specs.Strings.{bit}
use Rattle.theorems.proofs.StringLaws.{bit_lt}
use Rattle.strings.specs.Sums.{bit_of}
use Rattle.strings.specs.Products.{bit_product}
use Rattle.strings.proofs.SumLaws.{sum_same, sum_lt}
use Rattle.strings.proofs.Meaning.{byte-sum, byte-bit, byte-scale}

pub bit-next : (a i : ℕ) → bit_of a (suc i) ≡ bit_of (a / 2) i
unfolding bit_of
bit-next a i = let e : suc i ≡ 1 + i = omega arith in ap (λ k. a / 2 ^ k % 2) e ∙ ap (λ x. x % 2) (sym (shr-shr a 1 i))

pub bit-first : (a : ℕ) → bit_of a 0 ≡ a % 2
unfolding bit_of
bit-first a = ap (λ x. x % 2) (div-one a)

-- the product of two rows of bits, as any field of characteristic 2 has it
pub product-sum : (C : Coded) (n : ℕ) (row x : List ℕ) → C.byte (sum C.base.R n (λ c. C.base.R.mul (C.elem (bit row c)) (C.elem (bit x c)))) ≡ bit_product n row x
product-sum C n row x =
    byte-sum C n _
    ∙ sum_same n _ _ (λ c l. byte-scale C (bit row c) (C.elem (bit x c)) (bit_lt row c) ∙ ap (λ y. bit row c * y) (byte-bit C (bit x c) (bit_lt x c)))

pub bit_times_lt : (p q : ℕ) → p < 2 → q < 2 → p * q < 2
bit_times_lt zero q h k = omega arith
bit_times_lt (suc zero) q h k = omega arith
bit_times_lt (suc (suc p)) q h k = absurd (omega arith)

pub product_lt : (n : ℕ) (row x : List ℕ) → bit_product n row x < 2
product_lt n row x = sum_lt 1 n _ (lit< tt) (λ c l. bit_times_lt _ _ (bit_lt row c) (bit_lt x c))
