-- `trees::sixteens::hold_leaves` meets its contract. The invariant: where `Running` held of the leaves below `from`, it
-- holds of those below j.
-- Assumes nothing.
use Rattle.std.proofs.Common.{◌+◌, arith}
use Rattle.strings.specs.Sums.{byte_at}
use Rattle.trees.specs.Trees.{leaf_byte}
use Rattle.trees.specs.Partial.{held_plane}
use Rattle.trees.proofs.PartialLaws.{running_more}
use Rattle.trees.proofs.SixteenLaws.{held_put_row}
use Rattle.trees.proofs.sixteens.hold_leaves.Goals as goal

pub add_part-requires : goal.add_part-requires
add_part-requires c = (c.requires.3 c.loop-j.j (omega arith), c.requires.2)

pub loop-j-preserved : goal.loop-j-preserved
loop-j-preserved c =
    let a = c.args in
    let l = c.loop-j in
    let part = c.add_part in
    let row = c.held_row in
    let more = c.xor_row in
    λ run.
    running_more (λ i b. leaf_byte a.tree.now a.w a.delta i (a.at + b)) 8 16 (byte_at l.sum) (held_plane l.held 8) l.j (byte_at part.new.sum) (held_plane more.new.table 8)
    (l.invariant run) part.ensures
    (λ p b hp hb.
    held_put_row l.held more.new.table part.new.sum 8 row.result p b _ part.array_long hb (row.ensures.by_index p hp) more.ensures.row_added more.ensures.rows_kept)
