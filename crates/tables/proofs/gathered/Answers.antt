-- `tables::gathered` meets its contract. The invariant: the sum has the bits of the planes below p, each at its place.
-- Assumes nothing.
use borrow.Author.Rules.{rules}
use Prim.Native.Nat.{◌+◌, ◌*◌, ◌^◌}
use mathlib.Core.Path.{◌≡◌, refl, sym, ap₂, ◌∙◌}
use lib.Bits.{bit_xor}
use native.Mathlib.Omega.{arith}
use Rattle.strings.specs.Sums.{byte_at, bit_of, xor_sum}
use Rattle.strings.proofs.Rows.{row-end}
use Rattle.strings.proofs.SumLaws.{sum_more}
use Rattle.strings.proofs.Meaning.{bitOf_lt}
use Rattle.strings.proofs.BitLaws.{bits-sum, bit_shifted}
use Rattle.tables.proofs.gathered.Goals as goal

-- src/lib.rt:61:5
pub loop-p-init : goal.loop-p-init
unfolding xor_sum
loop-p-init c = refl

-- src/lib.rt:62:24
pub overflow_mul-sum : goal.overflow_mul-sum
overflow_mul-sum c = omega (arith, row-end c.loop-p.p 8 c.args.w (search rules))

-- src/lib.rt:62:24
pub overflow_add-sum : goal.overflow_add-sum
overflow_add-sum c = omega (arith, row-end c.loop-p.p 8 c.args.w (search rules))

-- src/lib.rt:62:17
pub bounds-planes-p : goal.bounds-planes-p
bounds-planes-p c = omega (arith, row-end c.loop-p.p 8 c.args.w (search rules))

-- src/lib.rt:61:5
pub loop-p-preserved : goal.loop-p-preserved
unfolding bit_of
loop-p-preserved c =
    let a = c.args in
    let l = c.loop-p in
    let x = bit_of (byte_at a.planes.now (l.p * a.w + a.b)) a.i in
    ap₂ bit_xor l.invariant (bit_shifted x l.p (bitOf_lt (byte_at a.planes.now (l.p * a.w + a.b)) a.i) (omega arith))
    ∙ sym (sum_more l.p (λ q. bit_of (byte_at a.planes.now (q * a.w + a.b)) a.i * 2 ^ q))

-- src/lib.rt:55:1
pub returns : goal.returns
returns c =
    let a = c.args in
    let l = c.loop-p in
    let e : l.p ≡ 8 = omega arith in
    rw e at l.invariant ∙ bits-sum 8 (λ q. bit_of (byte_at a.planes.now (q * a.w + a.b)) a.i) (λ q. bitOf_lt (byte_at a.planes.now (q * a.w + a.b)) a.i)
