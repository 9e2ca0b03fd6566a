-- `chunks::turns::part` meets its contract, by the law of four merges.
-- Assumes nothing.
use Rattle.chunks.proofs.TurnLaws.{four_merges}
use Rattle.chunks.proofs.turns.part.Goals as goal

pub returns : goal.returns
returns c =
    let a = c.args in
    let first = c.merge in
    let second = c.merge-2 in
    let third = c.merge-3 in
    let last = c.merge-4 in
    four_merges a.rows.now first.new.out second.new.out third.new.out last.new.out first.ensures second.ensures third.ensures last.ensures
