-- `equations::equation_error` meets its contract. The invariant: the sum is what the definition of the error has, over
-- the rows below rho.
-- Assumes nothing.
use Prim.Native.Nat.{ℕ, ◌*◌, ◌≤◌, ◌<◌}
use mathlib.Core.Path.{◌≡◌, sym, ap, ap₂, ◌∙◌}
use native.Mathlib.Numerals.{add-one}
use native.Mathlib.Omega.{arith}
use mathlib.Core.List.{List}
use lib.ListN.{length}
use lib.Bits.{bit_and, bit_xor, xor_zero_l}
use Rattle.protocol.specs.Lists.{block_at}
use Rattle.protocol.specs.Strings.{bytes_for, bit}
use Rattle.theorems.proofs.StringLaws.{bit_lt}
use Rattle.strings.specs.Sums.{xor_sum}
use Rattle.strings.proofs.Rows.{row-end}
use Rattle.strings.proofs.ParityLaws.{and-bits}
use Rattle.equations.specs.Equations.{row_product, row_of, error_bit}
use Rattle.equations.proofs.BlockLaws.{bytes-enough}
use Rattle.equations.proofs.RowLaws.{error_more}
use Rattle.equations.proofs.equation_error.Invariants.{up_to}
use Rattle.equations.proofs.equation_error.Goals as goal

narrow : (n w : ℕ) → n < 65536 → w ≡ bytes_for n → w ≤ 100000
unfolding bytes_for
narrow n w h e = omega arith

pub row_product-requires : goal.row_product-requires
row_product-requires c =
    let pre = c.requires in
    (sym pre.1, narrow c.args.n _ pre.3 (pre.1 ∙ pre.0))

pub loop-rho-init : goal.loop-rho-init
unfolding xor_sum
loop-rho-init c =
    let a = c.args in
    ap (λ (z : ℕ). bit_xor z a.y) (c.row_product.ensures.0 ∙ sym (xor_zero_l (row_product a.row.now a.x.now)))

pub row_at-requires : goal.row_at-requires
row_at-requires c =
    let a = c.args in
    omega (arith, c.requires.2, row-end c.loop-rho.rho a.n (length a.x.now) (omega arith))

pub row_product-product-requires : goal.row_product-product-requires
row_product-product-requires c =
    let pre = c.requires in
    (sym c.row_at.ensures.1, narrow c.args.n _ pre.3 (c.row_at.ensures.1 ∙ pre.0))

pub bit_at-requires : goal.bit_at-requires
bit_at-requires c =
    omega (arith, c.requires.0, bytes-enough c.args.n)

pub loop-rho-preserved : goal.loop-rho-preserved
unfolding xor_sum
loop-rho-preserved c =
    let a = c.args in
    let l = c.loop-rho in
    let A = a.matrix.now in
    let x = a.x.now in
    let row : c.row_at.result.now ≡ row_of a.n A l.rho = c.row_at.ensures.0 ∙ ap (λ (w : ℕ). block_at A w l.rho) c.requires.0 in
    let product : bit_and c.bit_at.result c.row_product-product.result ≡ bit x l.rho * row_product (row_of a.n A l.rho) x =
    and-bits c.bit_at.result c.row_product-product.result (rw c.bit_at.ensures (bit_lt x l.rho)) c.row_product-product.ensures.1
    ∙ ap₂ (λ p q. p * q) c.bit_at.ensures (c.row_product-product.ensures.0 ∙ ap (λ (r : List ℕ). row_product r x) row) in
    ap (λ (z : ℕ). bit_xor z (bit_and c.bit_at.result c.row_product-product.result)) l.invariant
    ∙ error_more (xor_sum l.rho (λ ρ. bit x ρ * row_product (row_of a.n A ρ) x)) (bit x l.rho * row_product (row_of a.n A l.rho) x) (row_product a.row.now x) a.y (bit_and c.bit_at.result c.row_product-product.result) product
    ∙ ap (up_to a.n A a.row.now a.y x) (sym (add-one l.rho))

pub returns : goal.returns
unfolding error_bit
returns c =
    let l = c.loop-rho in
    let e : l.rho ≡ c.args.n = omega arith in
    rw e at l.invariant
