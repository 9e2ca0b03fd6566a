-- `trees::fours::hold_fours` meets its contract. Sums of 0 are kept apart at first, and at the end each is added to the
-- row of its planes.
-- Assumes nothing.
use Rattle.std.proofs.Common.{ℕ, ◌*◌, ap, ◌∙◌, List, replicate}
use lib.Bits.{bit_xor}
use lib.ListN.{get_or-replicate}
use Rattle.strings.specs.Sums.{byte_at, bit_of}
use Rattle.trees.specs.Partial.{RunningLow, held_plane}
use Rattle.trees.proofs.SixteenLaws.{held_put_row}
use Rattle.trees.proofs.FourLaws.{low-none}
use Rattle.trees.proofs.fours.hold_fours.Goals as goal

pub returns : goal.returns
returns c =
    let a = c.args in
    let fours = c.add_fours in
    let row = c.held_row in
    let one = c.xor_row in
    let row2 = c.held_row-2 in
    let two = c.xor_row-2 in
    let none : List ℕ = replicate 16 0 in
    λ f placed run.
    let begun : RunningLow f 8 (held_plane a.held.now 8) a.sum.now none none a.run.from =
    (run.0, λ p b hp hb. low-none (held_plane a.held.now 8) (byte_at none) (byte_at none) p b (get_or-replicate 16 b 0 0 hb) (get_or-replicate 16 b 0 0 hb) ∙ run.1 p b hp hb) in
    let done = fours.ensures f placed begun in (
      done.0,
      λ p b hp hb.
          held_put_row one.new.table two.new.table fours.new.second 8 row2.result p b (bit_of 3 p) fours.array_long4 hb (row2.ensures.by_index p hp) two.ensures.row_added two.ensures.rows_kept
          ∙ ap (λ z. bit_xor z (bit_of 3 p * byte_at fours.new.second b))
          (held_put_row fours.new.held one.new.table fours.new.first 8 row.result p b (bit_of 1 p) fours.array_long3 hb (row.ensures.by_index p hp) one.ensures.row_added one.ensures.rows_kept)
          ∙ done.1 p b hp hb,
    )
