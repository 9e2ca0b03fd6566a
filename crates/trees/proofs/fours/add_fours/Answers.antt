-- `trees::fours::add_fours` meets its contract. The invariant: where `Running` held of the leaves below `from`, it
-- holds of those of the k fours passed too.
-- Assumes nothing.
use Rattle.std.proofs.Common.{◌≡◌, ℕ, ◌+◌, ◌*◌, ◌-◌, ◌<◌, ◌≤◌, List, length, refl, sym, ap, ◌∙◌, arith}
use lib.Bits.{bit_xor}
use Rattle.protocol.specs.Lists.{block_at}
use Rattle.strings.specs.Sums.{byte_at}
use Rattle.strings.proofs.Rows.{row-end}
use Rattle.trees.specs.Partial.{held_plane, Handed}
use Rattle.trees.proofs.SixteenLaws.{held_put_row}
use Rattle.trees.proofs.FourLaws.{four-fits, held_more}
use Rattle.trees.proofs.fours.add_fours.Goals as goal

pub row_at-requires-in-loop-k : goal.row_at-requires-in-loop-k
row_at-requires-in-loop-k c =
    let a = c.args in
    let run = a.run in
    let place = run.from + c.loop-k.k * 4 - run.skip in
    let fits = four-fits run.from run.to run.skip c.loop-k.k a.w (length a.tree.now) c.requires.3 c.requires.4 c.requires.5 (omega arith) in
    omega (arith, row-end (place + 1) (run.to - run.skip) a.w (omega arith))

pub row_at-requires-in-loop-k-2 : goal.row_at-requires-in-loop-k-2
row_at-requires-in-loop-k-2 c =
    let a = c.args in
    let run = a.run in
    let place = run.from + c.loop-k.k * 4 - run.skip in
    let fits = four-fits run.from run.to run.skip c.loop-k.k a.w (length a.tree.now) c.requires.3 c.requires.4 c.requires.5 (omega arith) in
    omega (arith, row-end (place + 2) (run.to - run.skip) a.w (omega arith))

pub row_at-requires-in-loop-k-3 : goal.row_at-requires-in-loop-k-3
row_at-requires-in-loop-k-3 c =
    let a = c.args in
    let run = a.run in
    let place = run.from + c.loop-k.k * 4 - run.skip in
    let fits = four-fits run.from run.to run.skip c.loop-k.k a.w (length a.tree.now) c.requires.3 c.requires.4 c.requires.5 (omega arith) in
    omega (arith, row-end (place + 3) (run.to - run.skip) a.w (omega arith))

pub loop-k-preserved : goal.loop-k-preserved
loop-k-preserved c =
    let a = c.args in
    let run = a.run in
    let tree = a.tree.now in
    let l = c.loop-k in
    let j = run.from + l.k * 4 in
    let one = c.row_at in
    let two = c.row_at-in-loop-k in
    let three = c.row_at-in-loop-k-2 in
    let added = c.add_three in
    let four = c.row_at-in-loop-k-3 in
    let leaf = c.add_at in
    let row = c.held_row in
    let more = c.xor_row in
    let fits = four-fits run.from run.to run.skip l.k a.w (length tree) c.requires.3 c.requires.4 c.requires.5 (omega arith) in
    λ f placed running.
    let handed : (i k : ℕ) (s : List ℕ) → j ≤ i → i < run.to → i - run.skip ≡ k → s ≡ block_at tree a.w k → Handed f i s run.at =
    λ i k s low high is same b h. placed i (omega arith) high b h ∙ sym (ap (λ t. byte_at t (run.at + b)) (same ∙ ap (block_at tree a.w) (sym is))) in
    let run3 =
    added.ensures f (held_plane l.held 8) 8 j fits.0
    (handed j (j - run.skip) one.result.now (omega arith) (omega arith) refl one.ensures.0)
    (handed (j + 1) (j - run.skip + 1) two.result.now (omega arith) (omega arith) (omega arith) two.ensures.0)
    (handed (j + 2) (j - run.skip + 2) three.result.now (omega arith) (omega arith) (omega arith) three.ensures.0)
    (l.invariant f placed running) in
    let run4 =
    held_more f (held_plane l.held 8) 8 (j + 3) (byte_at added.new.sum) (byte_at added.new.first) (byte_at added.new.second) (byte_at leaf.new.dst) run3
    (λ b h. leaf.ensures b h ∙ ap (bit_xor (byte_at added.new.sum b)) (sym (handed (j + 3) (j - run.skip + 3) four.result.now (omega arith) (omega arith) (omega arith) four.ensures.0 b h)))
    (held_plane more.new.table 8)
    (λ p b hp hb.
    held_put_row l.held more.new.table leaf.new.dst 8 row.result p b _ leaf.array_long hb (row.ensures.by_index p hp) more.ensures.row_added more.ensures.rows_kept) in
    let end : j + 3 + 1 ≡ run.from + (l.k + 1) * 4 = omega arith in
    rw end at run4

pub returns : goal.returns
returns c =
    let run = c.args.run in
    let end : run.from + c.loop-k.k * 4 ≡ run.to = omega arith in
    λ f placed running. rw end at (c.loop-k.invariant f placed running)
