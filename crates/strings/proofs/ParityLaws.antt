-- The parity of the ones that two rows share is their product over GF(2): byte by byte, and in each byte bit by bit.
-- Assumes nothing.
use mathlib.Core.Path.{◌≡◌, refl, sym, ap, ap₂, ◌∙◌}
use mathlib.Core.List.{List, [], ◌∷◌}
use Prim.Native.Nat.{ℕ, zero, suc, ◌+◌, ◌*◌, ◌/◌, ◌%◌, ◌^◌, ◌≤◌, ◌<◌}
use native.Mathlib.Nat.{le_refl, zero-mul, mod-lt, mod-mod, pow-suc, div-lt_iff_lt-mul}
use native.Mathlib.Numerals.{add-one}
use native.Mathlib.Omega.{arith}
use lib.Arith.{lt-one}
use lib.Bits.{bit_and, bit_xor, and_shr, and_mod, and_le_l, xor_add_and, xor_mod, xor_shr}
use lib.Count.{ones, ones_step, ones-le}
use lib.Dec.{lit<}
use lib.ListN.{length}
use Rattle.std.specs.List.{fold, sum_by, zip}
use Rattle.std.proofs.Common.{zero-add}
use Rattle.protocol.specs.Strings.{bit}
use Rattle.strings.specs.Sums.{byte_at, bit_of, xor_sum}
use Rattle.strings.specs.Products.{bit_product}
use Rattle.strings.proofs.SumLaws.{sum_same, sum_parts, four}
use Rattle.strings.proofs.Meaning.{bit-place}
use Rattle.strings.proofs.ProductLaws.{bit-first, bit-next}
use Rattle.strings.specs.Shared.{shared, RowProduct}

pub parity-add : (a b : ℕ) → (a + b) % 2 ≡ bit_xor (a % 2) (b % 2)
parity-add a b =
    let e : (a + b) % 2 ≡ bit_xor a b % 2 = omega (arith, xor_add_and a b) in
    e ∙ xor_mod a b 1

parity-ones : (a : ℕ) → ones a % 2 ≡ bit_xor (a % 2) (ones (a / 2) % 2)
parity-ones a = ap (λ z. z % 2) (ones_step a) ∙ parity-add (a % 2) (ones (a / 2)) ∙ ap (λ z. bit_xor z (ones (a / 2) % 2)) (mod-mod a 2)

-- the parity of the ones of an exclusive or is the sum of the parities
pub ones_xor : (a b : ℕ) → ones (bit_xor a b) % 2 ≡ bit_xor (ones a % 2) (ones b % 2)
unfolding ones
ones_xor a b = go (a + b) a b (le_refl (a + b))
  where
    go : (k a b : ℕ) → a + b ≤ k → ones (bit_xor a b) % 2 ≡ bit_xor (ones a % 2) (ones b % 2)
    go zero a b h =
        let p : a ≡ 0 = omega arith in
        let q : b ≡ 0 = omega arith in
        ap₂ (λ x y. ones (bit_xor x y) % 2) p q ∙ sym (ap₂ (λ x y. bit_xor (ones x % 2) (ones y % 2)) p q)
    go (suc k) a b h =
        parity-ones (bit_xor a b)
        ∙ ap₂ bit_xor (xor_mod a b 1) (ap (λ z. ones z % 2) (xor_shr a b 1) ∙ go k (a / 2) (b / 2) (omega arith))
        ∙ four (a % 2) (b % 2) (ones (a / 2) % 2) (ones (b / 2) % 2)
        ∙ sym (ap₂ bit_xor (parity-ones a) (parity-ones b))

-- the product of two bits
pub and-bits : (x y : ℕ) → x < 2 → y < 2 → bit_and x y ≡ x * y
and-bits zero y h k = sym (zero-mul y)
and-bits (suc zero) zero h k = refl
and-bits (suc zero) (suc zero) h k = refl
and-bits (suc zero) (suc (suc y)) h k = absurd (omega arith)
and-bits (suc (suc x)) y h k = absurd (omega arith)

and_low : (a b : ℕ) → bit_and a b % 2 ≡ a % 2 * (b % 2)
and_low a b = and_mod a b 1 ∙ and-bits (a % 2) (b % 2) (mod-lt a (lit< tt)) (mod-lt b (lit< tt))

sum-front : (n : ℕ) (f : ℕ → ℕ) → xor_sum (suc n) f ≡ bit_xor (f 0) (xor_sum n (λ i. f (suc i)))
unfolding xor_sum
sum-front n f =
    let e : suc n ≡ 1 + n = omega arith in
    ap (λ k. xor_sum k f) e ∙ sum_parts 1 n f ∙ ap (λ g. bit_xor (f 0) (xor_sum n g)) (λ j i. f (one-add i j))
  where
    one-add : (i : ℕ) → 1 + i ≡ suc i
    one-add i = omega arith

-- the ones that two numbers share in their first k bits
pub ones-product : (k a b : ℕ) → a < 2 ^ k → ones (bit_and a b) % 2 ≡ xor_sum k (λ i. bit_of a i * bit_of b i)
unfolding ones xor_sum
ones-product zero a b h = ap (λ z. ones (bit_and z b) % 2) (lt-one h)
ones-product (suc k) a b h =
    ap (λ z. z % 2) (ones_step (bit_and a b))
    ∙ parity-add (bit_and a b % 2) (ones (bit_and a b / 2))
    ∙ ap₂ bit_xor
    (mod-mod (bit_and a b) 2 ∙ and_low a b ∙ ap₂ (λ x y. x * y) (sym (bit-first a)) (sym (bit-first b)))
    (ap (λ z. ones z % 2) (and_shr a b 1) ∙ ones-product k (a / 2) (b / 2) ((div-lt_iff_lt-mul (lit< tt)).1 (rw (pow-suc 2 k) at h))
    ∙ sum_same k _ (λ i. bit_of a (suc i) * bit_of b (suc i)) (λ i l. ap₂ (λ x y. x * y) (sym (bit-next a i)) (sym (bit-next b i))))
    ∙ sym (sum-front k (λ i. bit_of a i * bit_of b i))

pub shared-parity : (n : ℕ) (row x : List ℕ) → ((i : ℕ) → i < n → byte_at row i < 256) → shared n row x % 2 ≡ bit_product (n * 8) row x
unfolding shared xor_sum
shared-parity zero row x h = refl
shared-parity (suc n) row x h =
    let e : suc n * 8 ≡ n * 8 + 8 = omega arith in
    parity-add (shared n row x) (ones (bit_and (byte_at row n) (byte_at x n)))
    ∙ ap₂ bit_xor (shared-parity n row x (λ i l. h i (omega arith)))
    (ones-product 8 (byte_at row n) (byte_at x n) (h n (omega arith))
    ∙ sum_same 8 _ (λ i. bit row (n * 8 + i) * bit x (n * 8 + i)) (λ i l. ap₂ (λ a b. a * b) (sym (bit-place row n i l)) (sym (bit-place x n i l))))
    ∙ sym (sum_parts (n * 8) 8 (λ c. bit row c * bit x c)) ∙ ap (λ k. bit_product k row x) (sym e)

pub row-product : RowProduct
row-product row x h l = shared-parity (length row) row x h

-- ---- bounds

pub shared_le : (n : ℕ) (row x : List ℕ) → ((i : ℕ) → byte_at row i < 256) → shared n row x ≤ 8 * n
unfolding shared
shared_le zero row x h = omega arith
shared_le (suc n) row x h =
    omega (arith, shared_le n row x h, ones-le 8 (bit_and (byte_at row n) (byte_at x n)) (omega (arith, and_le_l (byte_at row n) (byte_at x n), h n)))

pub shared_more : (n : ℕ) (row x : List ℕ) → shared (n + 1) row x ≡ shared n row x + ones (bit_and (byte_at row n) (byte_at x n))
unfolding shared
shared_more n row x = rw add-one

-- ---- the same count, taken along the rows

shared-first : (n r s : ℕ) (row x : List ℕ) → shared (suc n) (r ∷ row) (s ∷ x) ≡ ones (bit_and r s) + shared n row x
unfolding shared
shared-first zero r s row x = omega arith
shared-first (suc n) r s row x = omega (arith, shared-first n r s row x)

shared_fold : (row x : List ℕ) (a : ℕ) → length x ≡ length row
    → fold (λ a p. a + ones (bit_and p.0 p.1)) a (zip row x) ≡ a + shared (length row) row x
unfolding shared
shared_fold [] x a h = omega arith
shared_fold (r ∷ row) [] a h = absurd (omega arith)
shared_fold (r ∷ row) (s ∷ x) a h =
    shared_fold row x (a + ones (bit_and r s)) (omega arith) ∙ omega (arith, shared-first (length row) r s row x)

pub shared-zip : (row x : List ℕ) → length x ≡ length row → sum_by (λ p. ones (bit_and p.0 p.1)) (zip row x) ≡ shared (length row) row x
shared-zip row x h = shared_fold row x 0 h ∙ zero-add (shared (length row) row x)
