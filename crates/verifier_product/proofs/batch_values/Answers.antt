-- `verifier_product::batch_values` meets its contract. Each element is changed once (`Elementwise`).
-- Assumes nothing.
use Prim.Native.Nat.{ℕ, ◌*◌}
use mathlib.Core.Path.{◌≡◌, refl, ap, ◌∙◌}
use mathlib.Core.List.{List}
use native.Mathlib.Omega.{arith}
use lib.ListN.{length}
use Rattle.protocol.specs.Lists.{block_at}
use Rattle.protocol.specs.Strings.{bit}
use Rattle.strings.specs.Sums.{byte_at, xor_sum}
use Rattle.strings.proofs.Elementwise.{changed, changed_more, changed-at}
use Rattle.strings.proofs.Rows.{row-end, row-byte}
use Rattle.strings.proofs.SumLaws.{sum_same}
use Rattle.verifier_product.specs.Product.{value_byte}
use Rattle.verifier_product.proofs.batch_values.Goals as goal

-- the row that was lent, of m bytes, is that of χ
weighed : (row χ y : List ℕ) (m e : ℕ) → (row ≡ block_at χ m e) × (length row ≡ m) → xor_sum (length row) (λ i. byte_at row i * bit y i) ≡ value_byte m χ y e
weighed row χ y m e (is, long) =
    ap (λ (n : ℕ). xor_sum n (λ i. byte_at row i * bit y i)) long
    ∙ sum_same m _ _ (λ i h. ap (λ (x : ℕ). x * bit y i) (ap (λ (r : List ℕ). byte_at r i) is ∙ row-byte χ m e i h))

pub loop-e-init : goal.loop-e-init
unfolding changed
loop-e-init c = refl

pub row_at-requires : goal.row_at-requires
row_at-requires c = omega (arith, c.requires.1, row-end c.loop-e.e c.args.tau c.args.m (omega arith))

pub weigh-requires : goal.weigh-requires
weigh-requires c = omega (arith, c.row_at.ensures.1, c.requires.2)

pub loop-e-preserved : goal.loop-e-preserved
loop-e-preserved c =
    let a = c.args in
    let l = c.loop-e in
    changed_more (λ k z. value_byte a.m a.chi.now a.y.now k) a.out.now l.out l.e _ l.invariant (c.weigh.ensures ∙ weighed c.row_at.result.now a.chi.now a.y.now a.m l.e c.row_at.ensures)

pub returns : goal.returns
returns c e h =
    let a = c.args in
    let l = c.loop-e in
    let end : l.e ≡ a.tau = omega arith in
    rw (l.invariant, end) (changed-at (λ k z. value_byte a.m a.chi.now a.y.now k) a.out.now a.tau e (omega arith) h)
