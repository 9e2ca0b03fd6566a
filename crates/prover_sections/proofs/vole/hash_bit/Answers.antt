-- `prover_sections::vole::hash_bit` meets its contract. The row product reads no more of u than the row's bytes.
-- Assumes nothing.
use Prim.Native.Nat.{ℕ, ◌+◌, ◌*◌, ◌≤◌, ◌<◌}
use mathlib.Core.Path.{◌≡◌, ap, ap₂, ◌∙◌}
use native.Mathlib.Omega.{arith}
use lib.Bits.{bit_xor}
use lib.ListN.{length, take, length-take}
use Rattle.protocol.specs.Lists.{block_at}
use Rattle.protocol.specs.Strings.{bytes_for, bit}
use Rattle.strings.specs.Products.{bit_product}
use Rattle.strings.proofs.SumLaws.{sum_same}
use Rattle.strings.proofs.BitLaws.{take-bit}
use Rattle.prover_sections.proofs.vole.hash_bit.Goals as goal

pub row_at-row-requires : goal.row_at-row-requires
row_at-row-requires c = rw c.bytes_for-width.ensures (omega arith)

-- the bytes of a row are not more than those of u
under : (k r w u : ℕ) → w ≡ bytes_for k → k + r < u * 8 → w ≤ u
unfolding bytes_for
under k r w u is h = omega (arith, is, h)

pub slice_bounds-row_product-end : goal.slice_bounds-row_product-end
slice_bounds-row_product-end c = let a = c.args in simp length-take (omega (arith, under a.k a.rho c.bytes_for-width.result (length a.u.now) c.bytes_for-width.ensures (omega arith)))

pub row_product-requires : goal.row_product-requires
row_product-requires c =
    let a = c.args in
    let fits = under a.k a.rho c.bytes_for-width.result (length a.u.now) c.bytes_for-width.ensures (omega arith) in
    (simp length-take (omega (arith, fits, c.row_at-row.ensures.1)), omega (arith, fits, c.row_at-row.ensures.1))

pub returns : goal.returns
returns c =
    let a = c.args in
    let row = c.row_at-row in
    let width = c.bytes_for-width.result in
    ap₂ bit_xor
    (c.row_product.ensures.0
    ∙ ap (λ n. bit_product (n * 8) row.result.now (take width a.u.now)) row.ensures.1
    ∙ ap (λ s. bit_product (width * 8) s (take width a.u.now)) row.ensures.0
    ∙ sum_same (width * 8) _ (λ d. bit (block_at a.matrix.now width a.rho) d * bit a.u.now d)
    (λ d h. ap (λ q. bit (block_at a.matrix.now width a.rho) d * q) (take-bit width a.u.now d h)))
    c.bit_at.ensures
    ∙ ap (λ w. bit_xor (bit_product (w * 8) (block_at a.matrix.now w a.rho) a.u.now) (bit a.u.now (a.k + a.rho))) c.bytes_for-width.ensures
