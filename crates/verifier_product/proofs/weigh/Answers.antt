-- `verifier_product::weigh` meets its contract. The invariant: the sum of the products passed.
-- Assumes nothing.
use Prim.Native.Nat.{ℕ, ◌*◌, ◌≤◌, ◌<◌}
use mathlib.Core.Path.{◌≡◌, refl, ap₂}
use native.Mathlib.Nat.{mul-le-mul}
use native.Mathlib.Numerals.{add-one}
use native.Mathlib.Omega.{arith}
use lib.ListN.{length}
use lib.Bits.{bit_xor}
use Rattle.protocol.specs.Strings.{bit}
use Rattle.theorems.proofs.StringLaws.{bit_lt}
use Rattle.strings.specs.Sums.{byte_at, xor_sum}
use Rattle.verifier_product.proofs.weigh.Goals as goal

pub loop-i-init : goal.loop-i-init
unfolding xor_sum
loop-i-init c = refl

pub overflow_mul-sum : goal.overflow_mul-sum
overflow_mul-sum c =
    let one : bit c.args.y.now c.loop-i.i < 2 = bit_lt c.args.y.now c.loop-i.i in
    let few : c.bit_at.result ≤ 1 = omega (arith, one, c.bit_at.ensures) in
    let byte : byte_at c.args.row.now c.loop-i.i < 256 = (c.type_inv.row c.loop-i.i).fits in
    let most : byte_at c.args.row.now c.loop-i.i ≤ 255 = omega (arith, byte) in
    omega (arith, mul-le-mul most few)

pub loop-i-preserved : goal.loop-i-preserved
unfolding xor_sum
loop-i-preserved c =
    let a = c.args in
    let l = c.loop-i in
    rw add-one (ap₂ (λ (x y : ℕ). bit_xor x (byte_at a.row.now l.i * y)) l.invariant c.bit_at.ensures)

pub returns : goal.returns
returns c =
    let l = c.loop-i in
    let end : l.i ≡ length c.args.row.now = omega arith in
    rw end at l.invariant
