-- `forms_choices::picks::choose_all` meets its contract. The invariant: the numbers of the bits below p are chosen.
-- Assumes nothing.
use Rattle.strings.proofs.Rows.{rows_more}
use Rattle.forms_choices.specs.Entries.{choice, in_rows}
use Rattle.forms_choices.proofs.picks.choose_all.Goals as goal

pub loop-p-preserved : goal.loop-p-preserved
loop-p-preserved c =
    let l = c.loop-p in
    let done = c.choose_at in
    rows_more (choice (in_rows c.args.rows.now)) l.picks done.new.picks l.p 32 l.invariant done.ensures.by_index done.ensures.rows_kept
