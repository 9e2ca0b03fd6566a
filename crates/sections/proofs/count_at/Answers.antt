-- `sections::count_at` meets its contract. The loop's invariant: the sections passed end where the next count stands.
-- Assumes nothing.
use mathlib.Core.Path.{◌≡◌, refl, sym}
use native.Mathlib.Numerals.{add-one}
use native.Mathlib.Omega.{arith}
use Rattle.protocol.specs.Frames.{framed_length}
use Rattle.sections.proofs.SectionLaws.{length_more, section-end}
use Rattle.sections.proofs.count_at.Goals as goal

pub loop-j-init : goal.loop-j-init
unfolding framed_length
loop-j-init c = refl

pub overflow_add-at : goal.overflow_add-at
overflow_add-at c = omega (arith, section-end c.args.lengths.now c.loop-j.j (omega arith))

pub overflow_add-at-in-loop-j : goal.overflow_add-at-in-loop-j
overflow_add-at-in-loop-j c = omega (arith, section-end c.args.lengths.now c.loop-j.j (omega arith))

pub loop-j-preserved : goal.loop-j-preserved
loop-j-preserved c =
    let l = c.loop-j in
    rw (add-one, l.invariant) (sym (length_more _ l.j (omega arith)))

pub returns : goal.returns
returns c = let e : c.loop-j.j ≡ c.args.i = omega arith in rw (← e) c.loop-j.invariant
