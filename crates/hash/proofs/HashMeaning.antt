-- What is hashed lane by lane is the hash of the repetition's vector.
-- Assumes nothing.
use mathlib.Core.Path.{◌≡◌, sym, ap, ap₂, ◌∙◌}
use mathlib.Core.Bool.{true}
use mathlib.Core.List.{List}
use Prim.Native.Nat.{ℕ, zero, suc, ◌+◌, ◌*◌, ◌-◌, ◌≤◌, ◌<◌}
use native.Mathlib.Nat.{mul_comm, zero-mul, add-zero, add-suc}
use native.Mathlib.Omega.{arith}
use lib.ListN.{length}
use lib.Bits.{bit_xor, xor_zero_r}
use Rattle.algebra.specs.Sum.{sum}
use Rattle.algebra.specs.Coded.{Coded}
use Rattle.protocol.specs.Lists.{block_at}
use Rattle.protocol.specs.Strings.{bytes_for, bit, spare_zero}
use Rattle.protocol.specs.Alphabet.{sym as symbol}
use Rattle.protocol.specs.Setting.{Setting, alphabet_of}
use Rattle.protocol.specs.Shape.{Shape, k_of, l_of}
use Rattle.protocol.specs.Key.{rows_spare}
use Rattle.protocol.specs.Forms.{hash}
use Rattle.protocol.specs.Questions.{h_exact, h_spare}
use Rattle.theorems.proofs.TestLaws.{eqb_eq, all-at}
use Rattle.theorems.proofs.ListLaws.{row-end, length-block}
use Rattle.theorems.proofs.StringLaws.{bit_lt, spare-at}
use Rattle.theorems.proofs.HashLaws.{hash-split}
use Rattle.strings.specs.Sums.{byte_at, xor_sum, selected}
use Rattle.strings.proofs.SumLaws.{sum_same}
use Rattle.strings.proofs.Meaning.{byte-sum}
use Rattle.lanes.specs.Lanes.{lanes}
use Rattle.strings.proofs.Meaning.{byte-times}
use Rattle.tables.proofs.SumsMeaning.{byte_of}
use Rattle.equations.proofs.BlockLaws.{bytes-enough}
use Rattle.questions.specs.Facts.{HashForm}
use Rattle.hash.specs.Hashed.{hash_lane}
use Rattle.format.proofs.FitLaws.{k_below}

-- the terms past k are 0
sum-cut : (k m : ℕ) (f : ℕ → ℕ) → ((i : ℕ) → i < m → f (k + i) ≡ 0) → xor_sum (k + m) f ≡ xor_sum k f
unfolding xor_sum
sum-cut k zero f h = rw add-zero
sum-cut k (suc m) f h = rw add-suc (ap₂ bit_xor (sum-cut k m f (λ i l. h i (omega arith))) (h m (omega arith)) ∙ xor_zero_r (xor_sum k f))

-- a bit times an element, as a byte
bit-times : (K : Coded) (q : ℕ) (a : K.base.R.F) → q < 2 → K.byte (K.base.R.mul (K.elem q) a) ≡ q * K.byte a
bit-times K q a h =
    ap K.byte (K.base.R.mul_comm (K.elem q) a ∙ ap (λ z. K.base.R.mul z (K.elem q)) (sym (K.elem-byte a)))
    ∙ byte-times K (K.byte a) q (K.byte_lt a) h ∙ mul_comm (K.byte a) q

-- a sum over bits of elements, on bytes
pub bits-sum : (g : Setting) (n : ℕ) (row : List ℕ) (f : ℕ → (alphabet_of g).K.base.R.F)
    → byte_of g (sum (alphabet_of g).K.base.R n (λ c. (alphabet_of g).K.base.R.mul (symbol (alphabet_of g) row c) (f c))) ≡ xor_sum n (λ c. bit row c * byte_of g (f c))
unfolding symbol
bits-sum g n row f = byte-sum (alphabet_of g).K n _ ∙ sum_same n _ _ (λ c l. bit-times (alphabet_of g).K (bit row c) (f c) (bit_lt row c))

module _ (g : Setting) (s : Shape) (H' table : List ℕ) (f : ℕ → (alphabet_of g).K.base.R.F) (ρ e : ℕ) (exact : h_exact (alphabet_of g) s H' ≡ true) (spare : h_spare (alphabet_of g) s H' ≡ true) (l : ρ < s.t)
    (is : (c : ℕ) → c < l_of (alphabet_of g) s → byte_at table (c * lanes + e) ≡ byte_of g (f c)) where
  abbrev k : ℕ
  k = k_of (alphabet_of g) s

  abbrev row : List ℕ
  row = block_at H' (bytes_for k) ρ

  row-length : length (block_at H' (bytes_for (k_of (alphabet_of g) s)) ρ) ≡ bytes_for (k_of (alphabet_of g) s)
  unfolding h_exact
  row-length = length-block H' (bytes_for k) ρ (omega (arith, eqb_eq (length H') (s.t * bytes_for k) exact, row-end ρ s.t (bytes_for k) l))

  row-spare : (c : ℕ) → k ≤ c → c < bytes_for (k_of (alphabet_of g) s) * 8 → bit row c ≡ 0
  unfolding h_spare rows_spare
  row-spare c low high =
      spare-at k row (all-at s.t (λ i. spare_zero (block_at H' (bytes_for k) i) k) spare ρ l) c low (rw row-length high)

  identity_in : k_of (alphabet_of g) s + ρ < l_of (alphabet_of g) s
  unfolding l_of
  identity_in = omega (arith, l)

  selected_is : selected (bytes_for k * 8) row table lanes e ≡ byte_of g (sum (alphabet_of g).K.base.R k (λ c. (alphabet_of g).K.base.R.mul (symbol (alphabet_of g) row c) (f c)))
  selected_is =
      let n : bytes_for k * 8 ≡ k + (bytes_for k * 8 - k) = omega (arith, bytes-enough k) in
      ap (λ m. selected m row table lanes e) n
      ∙ sum-cut k (bytes_for k * 8 - k) (λ c. bit row c * byte_at table (c * lanes + e))
      (λ i h. ap (λ (b : ℕ). b * byte_at table ((k + i) * lanes + e)) (row-spare (k + i) (omega arith) (omega (arith, bytes-enough k))) ∙ zero-mul (byte_at table ((k + i) * lanes + e)))
      ∙ sum_same k _ _ (λ c h. ap (λ (y : ℕ). bit row c * y) (is c (k_below g s c h)))
      ∙ sym (bits-sum g k row f)

  pub hash_lane_is : hash_lane H' (bytes_for (k_of (alphabet_of g) s)) (k_of (alphabet_of g) s) table ρ e ≡ byte_of g (hash (alphabet_of g) s H' ρ f)
  hash_lane_is =
      ap₂ bit_xor selected_is (is (k + ρ) identity_in) ∙ sym ((alphabet_of g).K.byte-add _ (f (k + ρ))) ∙ ap (byte_of g) (sym (hash-split (alphabet_of g) s H' ρ f l))

-- H' of the right form has its rows
pub hash-length : (g : Setting) (s : Shape) (H' : List ℕ) → HashForm (alphabet_of g) s H' → length H' ≡ s.t * bytes_for (k_of (alphabet_of g) s)
unfolding h_exact
hash-length g s H' f = eqb_eq (length H') (s.t * bytes_for (k_of (alphabet_of g) s)) f.hash-exact
