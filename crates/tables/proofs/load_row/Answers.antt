-- `tables::load_row` meets its contract. Tree e is that part of the leaves, and u_e is written into row e.
-- Assumes nothing.
use Prim.Native.Nat.{ℕ, ◌+◌, ◌*◌, ◌-◌, ◌^◌, ◌≤◌}
use mathlib.Core.Path.{◌≡◌, ap, ◌∙◌}
use mathlib.Core.List.{List}
use native.Mathlib.Nat.{add-sub_cancel_left}
use native.Mathlib.Omega.{arith}
use lib.ListN.{length}
use Rattle.protocol.specs.Lists.{part, block_at}
use Rattle.theorems.proofs.ListLaws.{length-block}
use Rattle.strings.proofs.Rows.{put_in, put_other}
use Rattle.tables.specs.Sums.{u_byte, v_byte}
use Rattle.tables.proofs.load_row.Goals as goal

pub overflow_mul-leaves_of : goal.overflow_mul-leaves_of
overflow_mul-leaves_of c =
    let count : c.leaves_of.result ≡ 2 ^ c.args.r = c.leaves_of.ensures in
    rw count (omega (arith, c.requires.5))

pub row_at-tree-requires : goal.row_at-tree-requires
row_at-tree-requires c =
    let count : c.leaves_of.result ≡ 2 ^ c.args.r = c.leaves_of.ensures in
    rw count c.requires.5

pub load_tree-requires : goal.load_tree-requires
unfolding block_at part
load_tree-requires c =
    let a = c.args in
    let count : c.leaves_of.result ≡ 2 ^ a.r = c.leaves_of.ensures in
    let e : a.e * a.w + a.w - a.e * a.w ≡ a.w = add-sub_cancel_left (a.e * a.w) a.w in
    let long : length (block_at a.sums.now a.w a.e) ≡ a.w = length-block a.sums.now a.w a.e c.requires.4 in
    rw (e, long) (c.requires.0, c.requires.1, c.requires.2, c.requires.3, rw count at c.row_at-tree.ensures.1)

pub returns : goal.returns
unfolding block_at part
returns c =
    let a = c.args in
    let l = a.sums.now in
    let at = a.e * a.w in
    let count : c.leaves_of.result ≡ 2 ^ a.r = c.leaves_of.ensures in
    let load = c.load_tree in
    let tree : c.row_at-tree.result.now ≡ block_at a.leaves.now (2 ^ a.r * a.w) a.e = rw count at c.row_at-tree.ensures.0 in
    let e : at + a.w - at ≡ a.w = add-sub_cancel_left at a.w in
    let fits : at + a.w ≤ length l = c.requires.4 in
    let long : length (block_at l a.w a.e) ≡ a.w = length-block l a.w a.e fits in
    let kept : length load.new.u ≡ a.w = rw e at load.auto.u ∙ long in
    let done = rw (e, long) at load.ensures in
    rw e (record {
      by_index = (λ b h. put_in at a.w l load.new.u fits kept b h ∙ done.by_index b h ∙ ap (λ (s : List ℕ). u_byte s (2 ^ a.r) a.w b) tree);
      lane_is = (λ d h. done.lane_is d h ∙ ap (λ (s : List ℕ). v_byte s (2 ^ a.r) a.w d) tree);
      rows_kept = put_other a.e a.w l load.new.u fits kept;
      lanes_kept = done.lanes_kept;
    })
