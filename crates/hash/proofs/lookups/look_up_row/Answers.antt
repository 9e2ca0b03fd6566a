-- `hash::lookups::look_up_row` meets its contract. The invariant: the entries of the bytes passed are added. What they
-- sum to is `SelectLaws`.
-- Assumes nothing.
use Prim.Native.Nat.{ℕ, ◌+◌, ◌*◌, ◌%◌, ◌/◌}
use mathlib.Core.Path.{◌≡◌, sym, ap, ◌∙◌}
use native.Mathlib.Omega.{arith}
use lib.ListN.{length, get_or-replicate}
use lib.Bits.{bit_xor}
use Rattle.strings.specs.Sums.{byte_at, xor_sum}
use Rattle.strings.proofs.SumLaws.{sum_more}
use Rattle.lanes.specs.Lanes.{lanes, lane_at}
use Rattle.hash.proofs.SelectLaws.{look_up_selects}
use Rattle.hash.proofs.lookups.look_up_row.Goals as goal

pub loop-b-init : goal.loop-b-init
unfolding xor_sum
loop-b-init c = λ e h. get_or-replicate lanes e 0 0 h

pub loop-b-preserved : goal.loop-b-preserved
loop-b-preserved c =
    let a = c.args in
    let l = c.loop-b in
    let added = c.add_chosen in
    let chosen : ℕ → ℕ → ℕ = λ e b. bit_xor (lane_at a.sums.now (b * 32 + byte_at a.row.now b % 16) e) (lane_at a.sums.now (b * 32 + 16 + byte_at a.row.now b / 16) e) in
    λ e h. added.ensures e h ∙ ap (λ (x : ℕ). bit_xor x (chosen e l.b)) (l.invariant e h) ∙ sym (sum_more l.b (chosen e))

pub returns : goal.returns
returns c table n e tabled long most h =
    let a = c.args in
    let l = c.loop-b in
    let row = a.row.now in
    let end : l.b ≡ length row = omega arith in
    (rw end at l.invariant) e h
    ∙ look_up_selects row table e a.sums.now h (length row) tabled (λ i. (c.type_inv.row i).fits) n long most
