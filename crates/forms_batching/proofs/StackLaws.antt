-- All planes of a sum that bytes weigh; and stacks whose bytes are known.
-- Assumes nothing.
use mathlib.Core.Path.{◌≡◌, refl, sym, ap, ap₂, ◌∙◌}
use mathlib.Core.List.{List}
use Prim.Native.Nat.{ℕ, zero, suc, ◌+◌, ◌*◌, ◌%◌, ◌≤◌, ◌<◌}
use native.Mathlib.Nat.{zero-mul, one-mul, mul_comm, mul_assoc}
use native.Mathlib.Omega.{arith}
use lib.Bits.{bit_xor, xor_zero_r}
use Rattle.galois.specs.Degrees.{degree_of}
use Rattle.galois.proofs.DegreeLaws.{each_field, degree-most}
use Rattle.strings.specs.Sums.{byte_at, bit_of, xor_sum}
use Rattle.strings.proofs.SumLaws.{sum_same, sum-none, sum-short, sum_step}
use Rattle.strings.proofs.XorLaws.{xor_assoc}
use Rattle.strings.proofs.Meaning.{bitOf_lt, bitOf_zero, bitOf_sum, bit-times}
use Rattle.strings.proofs.ProductLaws.{bit_times_lt}
use Rattle.chunks.specs.Chunks.{chunk, cell_at}
use Rattle.chunks.proofs.BitSumLaws.{sum-swap, times-sum, bit-sum}
use Rattle.forms_choices.specs.Entries.{up_to}
use Rattle.forms_choices.proofs.ChoiceLaws.{up-to-first, up-to-past}
use Rattle.forms_columns.specs.Stacks.{alpha, byte_product, planes, stack_at, stack_of}
use Rattle.forms_columns.proofs.ProductLaws.{product_comm, product-bits, product-weights}
use Rattle.forms_batching.specs.Batched.{weighed_bit, plane_times}

-- what x is below, a bit times x is below
pub scaled_lt : (n q x : ℕ) → q < 2 → x < n → q * x < n
scaled_lt n zero x h k = rw (zero-mul x) (omega arith)
scaled_lt n (suc zero) x h k = rw (one-mul x) k
scaled_lt n (suc (suc q)) x h k = absurd (omega arith)

-- ---- all planes of a sum that bytes weigh

order : (a b x : ℕ) → a * b * x ≡ b * (a * x)
order a b x = ap (λ y. y * x) (mul_comm a b) ∙ mul_assoc b a x

pub planes-added : (d m v : ℕ) (χ y : ℕ → ℕ) → ((i : ℕ) → y i < 2)
    → xor_sum (degree_of d) (λ p. xor_sum m (λ i. bit_of (χ i) p * y i) * byte_product d (alpha d p) v) ≡ byte_product d v (xor_sum m (λ i. y i * χ i))
planes-added d m v χ y bits =
    sum_same (degree_of d) _ (λ p. xor_sum m (λ i. bit_of (χ i) p * y i * byte_product d (alpha d p) v)) (λ p l. times-sum m (λ i. bit_of (χ i) p * y i) (byte_product d (alpha d p) v) (λ i. bit_times_lt (bit_of (χ i) p) (y i) (bitOf_lt (χ i) p) (bits i)))
    ∙ sum-swap (degree_of d) m (λ p i. bit_of (χ i) p * y i * byte_product d (alpha d p) v)
    ∙ sum_same m _ (λ i. y i * byte_product d v (χ i)) (λ i l.
    sum_same (degree_of d) _ (λ p. y i * (bit_of (χ i) p * byte_product d v (alpha d p))) (λ p k. order (bit_of (χ i) p) (y i) (byte_product d (alpha d p) v) ∙ ap (λ x. y i * (bit_of (χ i) p * x)) (product_comm d (alpha d p) v))
    ∙ sym (bit-sum (y i) (degree_of d) (λ p. bit_of (χ i) p * byte_product d v (alpha d p)) (bits i))
    ∙ ap (λ x. y i * x) (product-bits d v (degree_of d) (bit_of (χ i)) (alpha d) (bitOf_lt (χ i)) ∙ product-weights d v (χ i)))
    ∙ product-bits d v m y χ bits

pub all-planes : (d : ℕ) (v S : List ℕ) (χ : ℕ → ℕ) (m f z : ℕ) → xor_sum 8 (up_to (degree_of d) (plane_times d v S χ m f z)) ≡ byte_product d (byte_at v f) (weighed_bit S χ m f z)
all-planes d v S χ m f z =
    sum-short (degree_of d) 8 (up_to (degree_of d) (plane_times d v S χ m f z)) (degree-most d) (λ p l k. up-to-past (degree_of d) (plane_times d v S χ m f z) p l)
    ∙ sum_same (degree_of d) _ (λ p. xor_sum m (λ i. bit_of (χ i) p * bit_of (cell_at S i f) z) * byte_product d (alpha d p) (byte_at v f))
    (λ p l.
    up-to-first (degree_of d) (plane_times d v S χ m f z) p l
    ∙ ap (λ x. x * byte_product d (alpha d p) (byte_at v f)) (bitOf_sum m (λ i. bit_of (χ i) p * cell_at S i f) z ∙ sum_same m _ _ (λ i k. bit-times (bit_of (χ i) p) (cell_at S i f) z (bitOf_lt (χ i) p))))
    ∙ planes-added d m (byte_at v f) χ (λ i. bit_of (cell_at S i f) z) (λ i. bitOf_lt (cell_at S i f) z)

-- ---- the planes, two at a time

degree_even : (d : ℕ) → degree_of d % 2 ≡ 0
unfolding degree_of
degree_even d = each_field (λ C. C.degree % 2 ≡ 0) refl refl d

step-two : (a s k : ℕ) (f : ℕ → ℕ) → s ≡ bit_xor a (xor_sum (2 * k) f) → bit_xor s (bit_xor (f (2 * k)) (f (2 * k + 1))) ≡ bit_xor a (xor_sum (2 * (k + 1)) f)
step-two a s k f h =
    let e : 2 * k + 1 + 1 ≡ 2 * (k + 1) = omega arith in
    sym (xor_assoc s (f (2 * k)) (f (2 * k + 1))) ∙ ap (λ x. bit_xor x (f (2 * k + 1))) (sum_step a s (2 * k) f h) ∙ sum_step a _ (2 * k + 1) f refl ∙ ap (λ n. bit_xor a (xor_sum n f)) e

module _ (d a s k : ℕ) (f : ℕ → ℕ) (is : s ≡ bit_xor a (xor_sum (2 * k) (up_to (degree_of d) f))) where
  -- two more below the degree
  pub two-more : (t : ℕ) → 2 * k < degree_of d → t ≡ bit_xor s (bit_xor (f (2 * k)) (f (2 * k + 1))) → t ≡ bit_xor a (xor_sum (2 * (k + 1)) (up_to (degree_of d) f))
  two-more t lt added =
      added
      ∙ ap₂ (λ x y. bit_xor s (bit_xor x y)) (sym (up-to-first (degree_of d) f (2 * k) lt)) (sym (up-to-first (degree_of d) f (2 * k + 1) (omega (arith, degree_even d))))
      ∙ step-two a s k (up_to (degree_of d) f) is

  -- none from the degree on
  pub none_more : degree_of d ≤ 2 * k → s ≡ bit_xor a (xor_sum (2 * (k + 1)) (up_to (degree_of d) f))
  none_more ge =
      sym (xor_zero_r s)
      ∙ ap (bit_xor s) (sym (ap₂ bit_xor (up-to-past (degree_of d) f (2 * k) ge) (up-to-past (degree_of d) f (2 * k + 1) (omega arith)) ∙ xor_zero_r 0))
      ∙ step-two a s k (up_to (degree_of d) f) is

-- ---- stacks whose bytes are known

pub stack_is : (d : ℕ) (T r : List ℕ) (e f z : ℕ) → f < chunk → ((b : ℕ) → b < planes * chunk → byte_at T (e * (planes * chunk) + b) ≡ byte_at r b) → stack_of d T e f z ≡ stack_at d r f z
stack_is d T r e f z h same = sum_same planes _ _ (λ s l. ap (λ x. bit_of x z * alpha d s) (same (s * chunk + f) (omega arith)))

pub stack_same : (d : ℕ) (T T' : List ℕ) (e f z : ℕ) → f < chunk → ((b : ℕ) → b < planes * chunk → byte_at T (e * (planes * chunk) + b) ≡ byte_at T' (e * (planes * chunk) + b)) → stack_of d T e f z ≡ stack_of d T' e f z
stack_same d T T' e f z h same = sum_same planes _ _ (λ s l. ap (λ x. bit_of x z * alpha d s) (same (s * chunk + f) (omega arith)))

pub stack_none : (d : ℕ) (T : List ℕ) (e f z : ℕ) → f < chunk → ((b : ℕ) → b < planes * chunk → byte_at T (e * (planes * chunk) + b) ≡ 0) → stack_of d T e f z ≡ 0
stack_none d T e f z h none =
    sum_same planes _ (λ s. 0) (λ s l. ap (λ x. x * alpha d s) (ap (λ x. bit_of x z) (none (s * chunk + f) (omega arith)) ∙ bitOf_zero z) ∙ zero-mul (alpha d s)) ∙ sum-none planes
