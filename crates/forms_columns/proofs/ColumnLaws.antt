-- The sum of the sixteen bytes of half a stack, and sums taken eight terms at a time.
-- Assumes nothing.
use mathlib.Core.Path.{◌≡◌, sym, ap, ap₂, ◌∙◌}
use mathlib.Core.List.{List}
use Prim.Native.Nat.{ℕ, ◌+◌, ◌*◌, ◌<◌}
use native.Mathlib.Nat.{add_assoc}
use native.Mathlib.Omega.{arith}
use lib.Bits.{bit_xor}
use Rattle.strings.specs.Sums.{byte_at, bit_of, xor_sum}
use Rattle.strings.proofs.XorLaws.{xor_assoc}
use Rattle.strings.proofs.SumLaws.{sum_same, sum_parts}
use Rattle.strings.proofs.Meaning.{bitOf_lt, bitOf_sum}
use Rattle.lanes.specs.Lanes.{lane_at}
use Rattle.chunks.specs.Chunks.{chunk}
use Rattle.chunks.proofs.BitSumLaws.{sum-swap, times-sum}
use Rattle.forms_columns.specs.Stacks.{alpha, planes, fold_of}

-- the value of the sums of sixteen bytes, plane by plane
pub fold_is : (d : ℕ) (rows T : List ℕ) (e h z : ℕ) → ((s : ℕ) → s < planes → lane_at rows s e ≡ xor_sum 16 (λ f. byte_at T (e * (planes * chunk) + (s * chunk + h * 16 + f))))
    → xor_sum planes (λ s. bit_of (lane_at rows s e) z * alpha d s) ≡ fold_of d T e h z
unfolding fold_of
fold_is d rows T e h z are =
    sum_same planes _ (λ s. xor_sum 16 (λ f. bit_of (byte_at T (e * (planes * chunk) + (s * chunk + (h * 16 + f)))) z * alpha d s))
    (λ s l.
    ap (λ x. x * alpha d s) (ap (λ x. bit_of x z) (are s l) ∙ bitOf_sum 16 (λ f. byte_at T (e * (planes * chunk) + (s * chunk + h * 16 + f))) z)
    ∙ times-sum 16 (λ f. bit_of (byte_at T (e * (planes * chunk) + (s * chunk + h * 16 + f))) z) (alpha d s) (λ f. bitOf_lt _ z)
    ∙ sum_same 16 _ _ (λ f k. ap (λ i. bit_of (byte_at T (e * (planes * chunk) + i)) z * alpha d s) (add_assoc (s * chunk) (h * 16) f)))
    ∙ sum-swap planes 16 (λ s f. bit_of (byte_at T (e * (planes * chunk) + (s * chunk + (h * 16 + f)))) z * alpha d s)

-- eight terms more
pub eight_more : (a v j : ℕ) (f g : ℕ → ℕ) → v ≡ bit_xor a (xor_sum (j * 8) f) → ((z : ℕ) → z < 8 → g z ≡ f (j * 8 + z)) → bit_xor v (xor_sum 8 g) ≡ bit_xor a (xor_sum ((j + 1) * 8) f)
eight_more a v j f g h same =
    let e : j * 8 + 8 ≡ (j + 1) * 8 = omega arith in
    ap₂ bit_xor h (sum_same 8 g (λ z. f (j * 8 + z)) same) ∙ xor_assoc a (xor_sum (j * 8) f) (xor_sum 8 (λ z. f (j * 8 + z)))
    ∙ ap (bit_xor a) (sym (sum_parts (j * 8) 8 f) ∙ ap (λ k. xor_sum k f) e)
