-- What bytes and planes add to a stack, times a byte.
-- Assumes nothing.
use mathlib.Core.Path.{◌≡◌, sym, ap, ap₂, ◌∙◌}
use mathlib.Core.List.{List}
use Prim.Native.Nat.{ℕ, ◌+◌, ◌*◌, ◌^◌, ◌<◌}
use native.Mathlib.Nat.{one-mul, mul_comm, mul_assoc}
use lib.Bits.{bit_xor, bit_and}
use mathlib.Core.Bool.{cond}
use Rattle.theorems.proofs.TestLaws.{ltb_yes}
use Rattle.field.proofs.ProductLaws.{mask-times}
use Rattle.strings.specs.Sums.{bit_of, xor_sum}
use Rattle.strings.proofs.XorLaws.{xor_assoc}
use Rattle.strings.proofs.SumLaws.{sum_same, sum_both, sum_put, xor_scale}
use Rattle.strings.proofs.Meaning.{bitOf_lt, bitOf_xor, times-bit}
use Rattle.chunks.specs.Chunks.{cell_at}
use Rattle.chunks.proofs.BitSumLaws.{bit-sum}
use Rattle.forms_columns.specs.Stacks.{alpha, byte_product, planes, stack_at}
use Rattle.galois.specs.Degrees.{degree_of}
use Rattle.forms_columns.proofs.ProductLaws.{alpha-add, byte-bits, product-bits}

-- a byte in a plane
cell_added : (d : ℕ) (t t' : List ℕ) (s y₀ f z : ℕ) → s < planes → cell_at t' s f ≡ bit_xor (cell_at t s f) y₀ → ((q : ℕ) → (q ≡ s → ⊥) → cell_at t' q f ≡ cell_at t q f)
    → stack_at d t' f z ≡ bit_xor (stack_at d t f z) (bit_of y₀ z * alpha d s)
cell_added d t t' s y₀ f z h here there =
    sum_put planes s (bit_of y₀ z * alpha d s) (λ q. bit_of (cell_at t q f) z * alpha d q) (λ q. bit_of (cell_at t' q f) z * alpha d q)
    (ap (λ y. y * alpha d s) (ap (λ y. bit_of y z) here ∙ bitOf_xor (cell_at t s f) y₀ z) ∙ xor_scale (bit_of (cell_at t s f) z) (bit_of y₀ z) (alpha d s) (bitOf_lt _ z) (bitOf_lt y₀ z))
    (λ q other. ap (λ y. bit_of y z * alpha d q) (there q other))
    ∙ ap (λ b. bit_xor (stack_at d t f z) (cond b 1 0 * (bit_of y₀ z * alpha d s))) (ltb_yes s planes h)
    ∙ ap (bit_xor (stack_at d t f z)) (one-mul (bit_of y₀ z * alpha d s))

-- the same, where it is x under the mask of the bit q
pub masked-added : (d : ℕ) (t t' : List ℕ) (s x mask q f z : ℕ) → s < planes → x < 256 → q < 2 → mask ≡ q * 255 → cell_at t' s f ≡ bit_xor (cell_at t s f) (bit_and x mask)
    → ((r : ℕ) → (r ≡ s → ⊥) → cell_at t' r f ≡ cell_at t r f) → stack_at d t' f z ≡ bit_xor (stack_at d t f z) (q * (bit_of x z * alpha d s))
masked-added d t t' s x mask q f z h hx hq is here there =
    cell_added d t t' s (x * q) f z h (here ∙ ap (bit_xor (cell_at t s f)) (ap (bit_and x) is ∙ mask-times q x hq hx)) there
    ∙ ap (bit_xor (stack_at d t f z)) (ap (λ y. y * alpha d s) (times-bit q x z hq ∙ mul_comm (bit_of x z) q) ∙ mul_assoc q (bit_of x z) (alpha d s))

-- one after the other
pub two-added : (a b c d e : ℕ) → b ≡ bit_xor a d → c ≡ bit_xor b e → c ≡ bit_xor a (bit_xor d e)
two-added a b c d e first second = second ∙ ap (λ x. bit_xor x e) first ∙ xor_assoc a d e

-- ---- what the bits of a byte v add to a stack, of two planes, x and y there

-- under bit i
abbrev pub term : ℕ → ℕ → ℕ → ℕ → ℕ → ℕ → ℕ
term d p x y v i = bit_xor (bit_of v i * (x * alpha d (p + i))) (bit_of v i * (y * alpha d (p + 1 + i)))

one_plane : (d p x v : ℕ) → x < 2 → v < 2 ^ degree_of d → xor_sum 8 (λ i. bit_of v i * (x * alpha d (p + i))) ≡ x * byte_product d (alpha d p) v
one_plane d p x v hx hv =
    sum_same 8 _ (λ i. x * (bit_of v i * byte_product d (alpha d p) (alpha d i)))
    (λ i l. sym (mul_assoc (bit_of v i) x (alpha d (p + i))) ∙ ap (λ y. y * alpha d (p + i)) (mul_comm (bit_of v i) x) ∙ mul_assoc x (bit_of v i) (alpha d (p + i)) ∙ ap (λ y. x * (bit_of v i * y)) (alpha-add d p i))
    ∙ sym (bit-sum x 8 (λ i. bit_of v i * byte_product d (alpha d p) (alpha d i)) hx)
    ∙ ap (λ y. x * y) (product-bits d (alpha d p) 8 (bit_of v) (alpha d) (bitOf_lt v) ∙ ap (byte_product d (alpha d p)) (byte-bits d v hv))

pub two-planes : (d p x y v : ℕ) → x < 2 → y < 2 → v < 2 ^ degree_of d → xor_sum 8 (term d p x y v) ≡ bit_xor (x * byte_product d (alpha d p) v) (y * byte_product d (alpha d (p + 1)) v)
two-planes d p x y v hx hy hv =
    sum_both 8 (λ i. bit_of v i * (x * alpha d (p + i))) (λ i. bit_of v i * (y * alpha d (p + 1 + i))) ∙ ap₂ bit_xor (one_plane d p x v hx hv) (one_plane d (p + 1) y v hy hv)
