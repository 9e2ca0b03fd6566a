-- `sections::frames::put_two` meets its contract: a section, and after it the other.
-- Assumes nothing.
use mathlib.Core.Path.{◌∙◌}
use mathlib.Core.List.{[], ◌∷◌}
use Prim.Native.Nat.{◌+◌}
use native.Mathlib.Omega.{arith}
use lib.ListN.{length, drop, length-take}
use Rattle.sections.proofs.Writes.{framed-two}
use borrow.Author.Rules.{rules}
use Rattle.sections.proofs.frames.put_two.Goals as goal

pub slice_bounds-put_section-end-2 : goal.slice_bounds-put_section-end-2
slice_bounds-put_section-end-2 c = simp length-take (omega arith)

pub put_section-requires : goal.put_section-requires
put_section-requires c = (simp length-take (omega arith), search rules)

pub returns : goal.returns
returns c =
    let a = c.args in
    let first = c.put_section in
    framed-two (4 + length a.first.now) first.new.out (drop (4 + length a.first.now) a.out.now) c.put_section-2.new.out (a.first.now ∷ []) (a.second.now ∷ [])
    (first.auto.out ∙ simp length-take (omega arith)) first.ensures c.put_section-2.ensures
