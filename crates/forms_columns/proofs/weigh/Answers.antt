-- `forms_columns::weigh` meets its contract. The invariant: the planes below s are added, each times its power of α.
-- Assumes nothing.
use Prim.Native.Nat.{ℕ, ◌*◌}
use mathlib.Core.List.{List}
use mathlib.Core.Path.{◌≡◌, sym, ap, ap₂, ◌∙◌}
use native.Mathlib.Omega.{arith}
use lib.Bits.{bit_xor}
use lib.ListN.{get_or-replicate}
use Rattle.strings.specs.Sums.{byte_at, bit_of, xor_sum}
use Rattle.strings.proofs.Rows.{row-byte}
use Rattle.strings.proofs.SumLaws.{sum_more}
use Rattle.lanes.specs.Lanes.{lanes, lane_at}
use Rattle.forms_columns.specs.Stacks.{alpha, planes}
use Rattle.forms_columns.proofs.weigh.Goals as goal

pub loop-s-init : goal.loop-s-init
unfolding xor_sum
loop-s-init c d e are h = get_or-replicate lanes e 0 0 h

pub loop-s-preserved : goal.loop-s-preserved
loop-s-preserved c d e are h =
    let a = c.args in
    let l = c.loop-s in
    c.add_weighted.ensures e h
    ∙ ap₂ (λ (x y : ℕ). bit_xor x y) (l.invariant d e are h)
    (ap₂ (λ (x y : ℕ). bit_of x a.z * y) (ap (λ (r : List ℕ). byte_at r e) c.row_of.ensures ∙ row-byte a.rows.now lanes l.s e h) (are.1 l.s (omega arith)))
    ∙ sym (sum_more l.s (λ i. bit_of (lane_at a.rows.now i e) a.z * alpha d i))

pub returns : goal.returns
returns c d e are h =
    let end : c.loop-s.s ≡ planes = omega arith in
    (rw end at c.loop-s.invariant) d e are h
