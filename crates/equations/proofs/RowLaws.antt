-- Strings of zeros, the bits of rows, and the error of an equation, row by row.
-- Assumes nothing.
use mathlib.Core.Path.{◌≡◌, refl, sym, ap, ◌∙◌}
use mathlib.Core.List.{List}
use Prim.Native.Nat.{ℕ, zero, suc, ◌+◌, ◌*◌, ◌/◌, ◌%◌, ◌<◌}
use native.Mathlib.Omega.{arith}
use lib.ListN.{replicate}
use lib.Bits.{bit_xor}
use Rattle.protocol.specs.Lists.{block_at}
use Rattle.protocol.specs.Strings.{bit}
use Rattle.strings.specs.Sums.{byte_at, bit_of}
use Rattle.strings.proofs.SumLaws.{xor_swap}
use Rattle.strings.proofs.Rows.{row-byte}
use Rattle.strings.proofs.Meaning.{bit_is}

-- ---- strings of zeros

pub zeros : (n b : ℕ) → byte_at (replicate n 0) b ≡ 0
zeros zero b = refl
zeros (suc n) zero = refl
zeros (suc n) (suc b) = zeros n b

-- ---- bits of rows

-- bit c of row ρ of a string
pub row-bit : (M : List ℕ) (w ρ c : ℕ) → c < w * 8 → bit_of (byte_at M (ρ * w + c / 8)) (c % 8) ≡ bit (block_at M w ρ) c
row-bit M w ρ c h = let inside : c / 8 < w = omega arith in sym (bit_is (block_at M w ρ) c ∙ ap (λ x. bit_of x (c % 8)) (row-byte M w ρ (c / 8) inside))

-- ---- the error, row by row

-- a row more, in the sum that the loop keeps
pub error_more : (S t p y q : ℕ) → q ≡ t → bit_xor (bit_xor (bit_xor S p) y) q ≡ bit_xor (bit_xor (bit_xor S t) p) y
error_more S t p y q e = ap (bit_xor (bit_xor (bit_xor S p) y)) e ∙ xor_swap (bit_xor S p) y t ∙ ap (λ (z : ℕ). bit_xor z y) (xor_swap S p t)
