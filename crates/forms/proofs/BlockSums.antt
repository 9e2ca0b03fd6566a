-- Block after block: the sums of a block are those of its equations among all, and are added to the sums of the
-- equations before it.
-- Assumes nothing.
use mathlib.Core.Path.{◌≡◌, sym, ap, ap₂, ◌∙◌}
use mathlib.Core.List.{List}
use Prim.Native.Nat.{ℕ, ◌+◌, ◌*◌, ◌≤◌, ◌<◌}
use native.Mathlib.Nat.{add_assoc, add-mul, mul-le-mul, le_refl}
use Rattle.std.proofs.Common.{arith}
use Rattle.std.specs.Int.{div_ceil}
use lib.ListN.{take, drop}
use lib.Bits.{bit_xor}
use Rattle.algebra.specs.Coded.{mul_byte}
use Rattle.galois.specs.Degrees.{field_of}
use Rattle.protocol.specs.Strings.{bytes_for}
use Rattle.strings.specs.Sums.{byte_at, xor_sum}
use Rattle.strings.proofs.XorLaws.{xor_assoc}
use Rattle.strings.proofs.SumLaws.{sum_same, sum_parts}
use Rattle.equations.specs.Equations.{row_of, matrix_of}
use Rattle.equations.proofs.BlockLaws.{block-part}
use Rattle.forms.specs.Forms.{form_byte, middle_byte}
use Rattle.forms.specs.Batch.{block_forms, block_middles}

-- the bytes of a row, as the code counts them
pub width_is : (n w : ℕ) → w ≡ div_ceil n 8 → w ≡ bytes_for n
unfolding bytes_for
width_is n w is = omega (arith, is)

-- a block of rows is inside the rows
pub part-inside : (from count m w : ℕ) {long : ℕ} → from + count ≤ m → long ≡ m * w → from * w + count * w ≤ long
part-inside from count m w h e = rw (e, ← add-mul from count w) (mul-le-mul h (le_refl w))

pub sums_more : (a v from count : ℕ) (f : ℕ → ℕ) → v ≡ bit_xor a (xor_sum from f) → bit_xor v (xor_sum count (λ i. f (from + i))) ≡ bit_xor a (xor_sum (from + count) f)
sums_more a v from count f is =
    ap (λ x. bit_xor x (xor_sum count (λ i. f (from + i)))) is
    ∙ xor_assoc a (xor_sum from f) (xor_sum count (λ i. f (from + i)))
    ∙ ap (bit_xor a) (sym (sum_parts from count f))

module _ (d n m from count e : ℕ) (A b χ : List ℕ) (g : ℕ → ℕ) where
  abbrev size : ℕ
  size = n * bytes_for n

  abbrev matrices : List ℕ
  matrices = take (count * size) (drop (from * size) A)

  abbrev rows : List ℕ
  rows = take (count * bytes_for n) (drop (from * bytes_for n) b)

  byte-at : (i : ℕ) → byte_at χ (e * m + from + i) ≡ byte_at χ (e * m + (from + i))
  byte-at i = ap (byte_at χ) (add_assoc (e * m) from i)

  matrix_at : (i : ℕ) → i < count → matrix_of n matrices i ≡ matrix_of n A (from + i)
  matrix_at i l = block-part A size from count i l

  pub forms-part : block_forms d n m from count matrices χ e g ≡ xor_sum count (λ i. mul_byte (field_of d) (byte_at χ (e * m + (from + i))) (form_byte d n (matrix_of n A (from + i)) g))
  forms-part = sum_same count _ _ (λ i l. ap₂ (mul_byte (field_of d)) (byte-at i) (ap (λ M. form_byte d n M g) (matrix_at i l)))

  pub middles_part : (x : ℕ → ℕ) → block_middles d n m from count matrices rows x χ e g
      ≡ xor_sum count (λ i. mul_byte (field_of d) (byte_at χ (e * m + (from + i))) (middle_byte n (matrix_of n A (from + i)) (row_of n b (from + i)) x g))
  middles_part x =
      sum_same count _ _ (λ i l.
      ap₂ (mul_byte (field_of d)) (byte-at i) (ap₂ (λ M row. middle_byte n M row x g) (matrix_at i l) (block-part b (bytes_for n) from count i l)))
