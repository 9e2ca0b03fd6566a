-- `forms_columns::finish` meets its contract. The invariant: the columns of the halves below h are added.
-- Assumes nothing.
use Prim.Native.Nat.{ℕ, ◌+◌, ◌*◌, ◌≤◌, ◌<◌}
use mathlib.Core.List.{List}
use mathlib.Core.Path.{◌≡◌, refl, sym, ap, ap₂, ◌∙◌}
use native.Mathlib.Omega.{arith}
use lib.Arith.{digits_div, digits_mod}
use lib.Dec.{lit<}
use lib.Bits.{xor_zero_r}
use Rattle.strings.specs.Sums.{byte_at, xor_sum}
use Rattle.strings.proofs.Rows.{row-byte, row_lt}
use Rattle.lanes.specs.Lanes.{lanes, lane_at}
use Rattle.chunks.specs.Chunks.{chunk}
use Rattle.forms_columns.specs.Stacks.{byte_product, planes, fold_of, column_of, value_of}
use Rattle.forms_columns.proofs.ColumnLaws.{fold_is, eight_more}
use Rattle.forms_columns.proofs.finish.Invariants.{midTerm, quadTerm}
use Rattle.forms_columns.proofs.finish.Goals as goal

column_is : (d : ℕ) (rows T : List ℕ) (e h z : ℕ) → z < 8 → ((s : ℕ) → s < planes → lane_at rows s e ≡ xor_sum 16 (λ f. byte_at T (e * (planes * chunk) + (s * chunk + h * 16 + f))))
    → value_of d rows z e ≡ column_of d T e (h * 8 + z)
column_is d rows T e h z k are = fold_is d rows T e h z are ∙ sym (ap₂ (fold_of d T e) (digits_div h k) (digits_mod h k))

pub loop-h-init : goal.loop-h-init
unfolding xor_sum
loop-h-init c =
    record { quad_added = λ e h. sym (xor_zero_r _); mid_added = λ on e h. sym (xor_zero_r _); mid_unchanged = λ off. refl }

pub add_columns-requires : goal.add_columns-requires
add_columns-requires c =
    let a = c.args in
    let small : (i : ℕ) → byte_at c.row_of-bits.result.now i < 2 = rw c.row_of-bits.ensures (row_lt a.xs.now 16 a.panel 2 (lit< tt) c.requires.5) in
    (small, c.weights_of-weights.ensures, omega arith)

pub loop-h-preserved : goal.loop-h-preserved
loop-h-preserved c =
    let a = c.args in
    let l = c.loop-h in
    let most : a.tau ≤ lanes = c.requires.0 in
    let rows = c.gather in
    let front = c.fill_front in
    let done = c.add_columns in
    let value : (e : ℕ) → e < a.tau → (z : ℕ) → z < 8 → value_of a.degree rows.new.rows z e ≡ column_of a.degree a.stacks.now e (l.h * 8 + z) =
    λ e h z k. column_is a.degree rows.new.rows a.stacks.now e l.h z k (λ s q. rows.ensures s e q h) in record {
      quad_added = λ e h.
          done.ensures.lanes_added e (omega arith)
          ∙ eight_more (byte_at a.quad.now e) (byte_at l.quad e) l.h (quadTerm a.degree a.stacks.now a.panel a.vectors.now e) _ (l.invariant.quad_added e h)
          (λ z k. ap₂ (byte_product a.degree) (front.ensures (l.h * 8 + z) e (omega arith) h) (value e h z k));
      mid_added = λ on e h.
          done.ensures.lanes_added_2 on e (omega arith)
          ∙ eight_more (byte_at a.mid.now e) (byte_at l.mid e) l.h (midTerm a.degree a.stacks.now a.panel a.xs.now e) _ (l.invariant.mid_added on e h)
          (λ z k. ap₂ (λ (x y : ℕ). x * y) (ap (λ (r : List ℕ). byte_at r (l.h * 8 + z)) c.row_of-bits.ensures ∙ row-byte a.xs.now 16 a.panel (l.h * 8 + z) (omega arith)) (value e h z k));
      mid_unchanged = λ off. done.ensures.mid_unchanged off ∙ l.invariant.mid_unchanged off;
    }

pub returns : goal.returns
returns c =
    let l = c.loop-h in
    let end : l.h ≡ 2 = omega arith in
    record {
      lanes_added = λ e h. (rw end at l.invariant.quad_added) e h;
      lanes_added_2 = λ on e h. (rw end at l.invariant.mid_added) on e h;
      mid_unchanged = l.invariant.mid_unchanged;
    }
