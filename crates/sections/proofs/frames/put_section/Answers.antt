-- `sections::frames::put_section` meets its contract: the count, and after it the section.
-- Assumes nothing.
use mathlib.Core.Path.{ap, ◌∙◌}
use native.Mathlib.Omega.{arith}
use lib.ListN.{length, length-take}
use Rattle.sections.proofs.Writes.{framed-one}
use borrow.Author.Rules.{rules}
use Rattle.sections.proofs.frames.put_section.Goals as goal

pub slice_bounds-put_count-end-2 : goal.slice_bounds-put_count-end-2
slice_bounds-put_count-end-2 c = simp length-take (omega arith)

pub put_count-requires : goal.put_count-requires
put_count-requires c = (simp length-take (omega arith), search rules)

pub returns : goal.returns
returns c =
    let a = c.args in
    let count = c.put_count in
    let copied = c.copy_from_slice in
    framed-one (length a.section.now) count.new.out a.out.now copied.new.self a.section.now (count.auto.out ∙ simp length-take (omega arith)) count.ensures copied.ensures.after (ap length copied.ensures.after)
