-- The product check's left side, put together from its parts; and the vectors at which it is taken are of elements.
-- Assumes nothing.
use mathlib.Core.Path.{◌≡◌, ap₂, ◌∙◌}
use mathlib.Core.List.{List}
use Prim.Native.Nat.{ℕ, ◌^◌, ◌≤◌, ◌<◌}
use native.Mathlib.Omega.{arith}
use lib.Bits.{bit_xor, xor_lt}
use Rattle.algebra.specs.Coded.{mul_byte}
use Rattle.galois.specs.Degrees.{field_of, degree_of}
use Rattle.protocol.specs.Strings.{bit}
use Rattle.theorems.proofs.StringLaws.{bit_lt}
use Rattle.strings.specs.Sums.{byte_at}
use Rattle.strings.proofs.XorLaws.{xor_assoc}
use Rattle.lanes.specs.Lanes.{lanes, lane_at}
use Rattle.equations.specs.Equations.{row_of}
use Rattle.forms_batching.proofs.StackLaws.{scaled_lt}
use Rattle.forms.specs.Forms.{row_bit}
use Rattle.forms.specs.Batch.{batch_byte, forms_byte}
use Rattle.forms.proofs.NarrowLaws.{element_bits}
use Rattle.verifier_product.specs.Product.{KeyLanes, value_byte, product_byte}

-- `l₁`, `l₂`, `l₃` are the lane as the parts are added to what stood there, `l₀`
pub left-side : (d n m : ℕ) (A b y χ : List ℕ) (e δ : ℕ) (f : ℕ → ℕ) (l₀ : ℕ) {l₁ l₂ l₃ linear square values : ℕ} → l₁ ≡ bit_xor l₀ (forms_byte d n m A χ e f)
    → linear ≡ batch_byte d m χ e (λ i. row_bit n (row_of n b i) f) → square ≡ mul_byte (field_of d) δ δ → values ≡ value_byte m χ y e
    → l₂ ≡ bit_xor l₁ (mul_byte (field_of d) δ linear) → l₃ ≡ bit_xor l₂ (mul_byte (field_of d) square values) → l₃ ≡ bit_xor l₀ (product_byte d n m A b y χ e δ f)
left-side d n m A b y χ e δ f l₀ e₁ l s v e₂ e₃ =
    let F = forms_byte d n m A χ e f in
    let L = mul_byte (field_of d) δ (batch_byte d m χ e (λ i. row_bit n (row_of n b i) f)) in
    e₃ ∙ ap₂ bit_xor (e₂ ∙ ap₂ (λ (x z : ℕ). bit_xor x (mul_byte (field_of d) δ z)) e₁ l ∙ xor_assoc l₀ F L) (ap₂ (mul_byte (field_of d)) s v)
    ∙ xor_assoc l₀ (bit_xor F L) (mul_byte (field_of d) (mul_byte (field_of d) δ δ) (value_byte m χ y e))

-- K_e is of elements where W_e and the challenges are: a bit times δ_e is added
pub key-narrow : (d n τ : ℕ) (bits Δ T T' : List ℕ) → τ ≤ lanes → KeyLanes n bits Δ T T' → ((e : ℕ) → e < τ → byte_at Δ e < (field_of d).base.size) → ((e c : ℕ) → e < τ → c < n → lane_at T c e < (field_of d).base.size)
    → (e c : ℕ) → e < τ → c < n → lane_at T' c e < 2 ^ degree_of d
key-narrow d n τ bits Δ T T' few keys challenges narrow e c l h =
    rw (keys c e h (omega (arith, few, l)))
    (xor_lt (degree_of d) _ _ (element_bits d _ (narrow e c l h)) (element_bits d _ (scaled_lt (field_of d).base.size (bit bits c) (byte_at Δ e) (bit_lt bits c) (challenges e l))))
