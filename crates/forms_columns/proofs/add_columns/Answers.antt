-- `forms_columns::add_columns` meets its contract. The invariant: the columns below z are added.
-- Assumes nothing.
use Prim.Native.Nat.{ℕ, ◌+◌, ◌*◌}
use mathlib.Core.Path.{◌≡◌, refl, sym, ap, ◌∙◌}
use native.Mathlib.Omega.{arith}
use lib.Bits.{bit_xor, xor_zero_r}
use Rattle.strings.specs.Sums.{byte_at, xor_sum}
use Rattle.strings.proofs.SumLaws.{sum_step}
use Rattle.lanes.specs.Lanes.{lane_at}
use Rattle.forms_columns.specs.Stacks.{byte_product}
use Rattle.forms_columns.proofs.add_columns.Invariants.{midTerm, quadTerm}
use Rattle.forms_columns.proofs.add_columns.Goals as goal

pub loop-z-init : goal.loop-z-init
unfolding xor_sum
loop-z-init c =
    record { quad_added = λ e h. sym (xor_zero_r _); mid_added = λ on e h. sym (xor_zero_r _); mid_unchanged = λ off. refl }

pub add_polar-requires : goal.add_polar-requires
add_polar-requires c = (omega arith, c.requires.0 _)

pub loop-z-preserved : goal.loop-z-preserved
loop-z-preserved c =
    let a = c.args in
    let l = c.loop-z in
    let k = a.h * 8 + l.z in
    let u = c.weigh-u.ensures a.degree in
    let done = c.add_polar.ensures in record {
      quad_added = λ e h.
          c.add_product.ensures e h
          ∙ ap (λ (x : ℕ). bit_xor (byte_at l.quad e) (byte_product a.degree (lane_at a.front.now k e) x)) (u e c.requires.1 h)
          ∙ sum_step (byte_at a.quad.now e) (byte_at l.quad e) l.z (quadTerm a.degree a.rows.now a.front.now a.h e) (l.invariant.quad_added e h);
      mid_added = λ on e h.
          done.lanes_added on e h
          ∙ ap (λ (x : ℕ). bit_xor (byte_at l.mid e) (byte_at a.xs.now k * x)) (u e c.requires.1 h)
          ∙ sum_step (byte_at a.mid.now e) (byte_at l.mid e) l.z (midTerm a.degree a.rows.now a.xs.now a.h e) (l.invariant.mid_added on e h);
      mid_unchanged = λ off. done.mid_unchanged off ∙ l.invariant.mid_unchanged off;
    }

pub returns : goal.returns
returns c =
    let l = c.loop-z in
    let end : l.z ≡ 8 = omega arith in
    record {
      lanes_added = λ e h. (rw end at l.invariant.quad_added) e h;
      lanes_added_2 = λ on e h. (rw end at l.invariant.mid_added) on e h;
      mid_unchanged = l.invariant.mid_unchanged;
    }
