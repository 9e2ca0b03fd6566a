-- `prover::load` meets its contract: the first parts of the two buffers, of the length that the sizes ask for, are
-- loaded.
-- Assumes nothing.
use mathlib.Core.Path.{◌≡◌, sym, ap, ◌∙◌}
use Prim.Native.Nat.{ℕ, ◌*◌}
use native.Mathlib.Omega.{arith}
use lib.ListN.{length}
use Rattle.protocol.specs.Shape.{per_tree, w_of}
use Rattle.format.specs.Sizes.{setting_for, alphabet_for, shape_for}
use Rattle.format.proofs.SizeLaws.{in-limits, w_most}
use Rattle.sections.proofs.Writes.{part_starts, take-length}
use Rattle.lanes.specs.Lanes.{lanes}
use Rattle.tables.specs.Sums.{SumsAre, TableIs}
use Rattle.format.proofs.FitLaws.{room}
use Rattle.prover.proofs.LoadedLaws.{tree-power, leaves-long, sums_more, table_more}
use Rattle.prover.proofs.load.Goals as goal

pub overflow_mul-w : goal.overflow_mul-w
overflow_mul-w c = rw c.leaf_bytes-w.ensures (omega (arith, w_most (setting_for c.args.s) (shape_for c.args.s) c.requires.0))

pub overflow_mul-w-2 : goal.overflow_mul-w-2
overflow_mul-w-2 c = rw c.leaf_bytes-w.ensures (omega (arith, w_most (setting_for c.args.s) (shape_for c.args.s) c.requires.0))

pub slice_bounds-load_trees-end : goal.slice_bounds-load_trees-end
slice_bounds-load_trees-end c = rw c.leaf_bytes-w.ensures c.requires.2.table-room

pub slice_bounds-load_trees-end-2 : goal.slice_bounds-load_trees-end-2
slice_bounds-load_trees-end-2 c =
    sym (take-length (8 * c.leaf_bytes-w.result * 48) c.args.table.now (rw c.leaf_bytes-w.ensures c.requires.2.table-room))

pub overflow_mul-s : goal.overflow_mul-s
overflow_mul-s c =
    rw c.leaf_bytes-w.ensures (omega (arith, (room (setting_for c.args.s) (shape_for c.args.s) c.requires.0).sums-room))

pub slice_bounds-load_trees-end-3 : goal.slice_bounds-load_trees-end-3
slice_bounds-load_trees-end-3 c = rw c.leaf_bytes-w.ensures c.requires.2.sums-room

pub slice_bounds-load_trees-end-4 : goal.slice_bounds-load_trees-end-4
slice_bounds-load_trees-end-4 c =
    sym (take-length (c.args.s.tau * c.leaf_bytes-w.result) c.args.sums.now (rw c.leaf_bytes-w.ensures c.requires.2.sums-room))

pub load_trees-requires : goal.load_trees-requires
load_trees-requires c = (
  take-length (8 * c.leaf_bytes-w.result * 48) c.args.table.now (rw c.leaf_bytes-w.ensures c.requires.2.table-room),
  take-length (c.args.s.tau * c.leaf_bytes-w.result) c.args.sums.now (rw c.leaf_bytes-w.ensures c.requires.2.sums-room),
  rw (c.leaf_bytes-w.ensures, tree-power (setting_for c.args.s) c.degree_of.result c.degree_of.ensures.0) (leaves-long (alphabet_for c.args.s) (shape_for c.args.s) _ c.requires.1),
  (in-limits (shape_for c.args.s) c.requires.0).τ_most,
  rw c.leaf_bytes-w.ensures (omega (arith, w_most (setting_for c.args.s) (shape_for c.args.s) c.requires.0)),
  c.degree_of.ensures.1,
)

pub returns : goal.returns
returns c =
    let a = c.args in
    let shape = (shape_for c.args.s) in
    let leaf = c.leaf_bytes-w in
    let first = c.load_trees in
    let tab : length c.load_trees.new.table ≡ 8 * w_of (alphabet_for c.args.s) (shape_for c.args.s) * lanes = first.auto.table ∙ take-length (8 * c.leaf_bytes-w.result * 48) c.args.table.now (rw c.leaf_bytes-w.ensures c.requires.2.table-room) ∙ ap (λ (x : ℕ). 8 * x * 48) leaf.ensures in
    let rows : length c.load_trees.new.sums ≡ c.args.s.tau * w_of (alphabet_for c.args.s) (shape_for c.args.s) = first.auto.sums ∙ take-length (c.args.s.tau * c.leaf_bytes-w.result) c.args.sums.now (rw c.leaf_bytes-w.ensures c.requires.2.sums-room) ∙ ap (λ (x : ℕ). c.args.s.tau * x) leaf.ensures in
    let are : SumsAre c.load_trees.new.sums c.args.leaves.now c.args.s.tau (w_of (alphabet_for c.args.s) (shape_for c.args.s)) (per_tree (alphabet_for a.s)) = rw (leaf.ensures, tree-power (setting_for a.s) c.degree_of.result c.degree_of.ensures.0) at first.ensures.sums_are in
    let is : TableIs c.load_trees.new.table c.args.leaves.now c.args.s.tau (w_of (alphabet_for c.args.s) (shape_for c.args.s)) (per_tree (alphabet_for a.s)) = rw (leaf.ensures, tree-power (setting_for a.s) c.degree_of.result c.degree_of.ensures.0) at first.ensures.table_is in
    record {
      leaves-form = c.requires.1;
      buffers = record {
        table-room = part_starts (8 * w_of (alphabet_for a.s) shape * lanes) first.new.table _ tab;
        sums-room = part_starts (a.s.tau * w_of (alphabet_for a.s) shape) first.new.sums _ rows;
      };
      sums-are = sums_more first.new.sums _ a.leaves.now a.s.tau (w_of (alphabet_for a.s) shape) (per_tree (alphabet_for a.s)) rows are;
      table_is = table_more first.new.table _ a.leaves.now a.s.tau (w_of (alphabet_for a.s) shape) (per_tree (alphabet_for a.s)) (in-limits shape c.requires.0).τ_most tab is;
    }
