-- `tables::load_trees` meets its contract. The invariant: the rows and lanes of the repetitions below e are done.
-- Assumes nothing.
use borrow.Author.Rules.{rules}
use Prim.Native.Nat.{ℕ, ◌*◌, ◌^◌}
use mathlib.Core.Path.{◌≡◌, ◌∙◌}
use mathlib.Core.List.{List}
use native.Mathlib.Nat.{mul_assoc}
use native.Mathlib.Omega.{arith}
use lib.ListN.{length, length-take}
use Rattle.protocol.specs.Lists.{block_at}
use Rattle.strings.proofs.Rows.{row-end, rows_more}
use Rattle.tables.specs.Sums.{u_byte, v_byte}
use Rattle.tables.proofs.TreeLaws.{lanes_more}
use Rattle.tables.proofs.load_trees.Goals as goal

pub loop-e-init : goal.loop-e-init
loop-e-init c = (λ e b h. absurd (omega arith), λ e c h. absurd (omega arith))

pub slice_bounds-load_row-end : goal.slice_bounds-load_row-end
slice_bounds-load_row-end c = simp length-take (omega arith)

pub load_row-requires : goal.load_row-requires
load_row-requires c =
    let a = c.args in
    let e = c.loop-e.e in (
      omega arith,
      simp length-take (omega arith),
      omega arith,
      c.requires.5,
      omega (arith, row-end e a.tau a.w (search rules)),
      omega (arith, row-end e a.tau (2 ^ a.r * a.w) (search rules), mul_assoc a.tau (2 ^ a.r) a.w),
    )

pub loop-e-preserved : goal.loop-e-preserved
loop-e-preserved c =
    let a = c.args in
    let l = c.loop-e in
    let call = c.load_row in
    let long : length call.new.planes ≡ 8 * a.w = call.auto.planes ∙ simp length-take (omega arith) in
    let tree : ℕ → List ℕ = block_at a.leaves.now (2 ^ a.r * a.w) in (
      rows_more (λ e. u_byte (tree e) (2 ^ a.r) a.w) l.sums call.new.sums l.e a.w l.invariant.0 call.ensures.by_index call.ensures.rows_kept,
      lanes_more (λ e. v_byte (tree e) (2 ^ a.r) a.w) a.w l.e l.table call.new.table (omega arith) l.invariant.1 call.ensures.lane_is call.ensures.lanes_kept,
    )

pub returns : goal.returns
returns c =
    let l = c.loop-e in
    record { sums_are = λ e b h. l.invariant.0 e b (omega arith); table_is = λ e d h. l.invariant.1 e d (omega arith) }
