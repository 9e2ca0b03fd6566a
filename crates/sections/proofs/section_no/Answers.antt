-- `sections::section_no` meets its contract. Section i stands after the sections before it (`SectionLaws`).
-- Assumes nothing.
use mathlib.Core.Path.{◌≡◌, sym, ap, ◌∙◌}
use Prim.Native.Nat.{◌+◌, ◌-◌, ◌≤◌}
use native.Mathlib.Nat.{add-sub_cancel_left}
use native.Mathlib.Omega.{arith}
use lib.ListN.{length, get_or}
use Rattle.protocol.specs.Lists.{part}
use Rattle.sections.proofs.SectionLaws.{section-end, section-part, length_part}
use Rattle.sections.proofs.section_no.Goals as goal

pub overflow_add-start : goal.overflow_add-start
overflow_add-start c =
    omega (arith, section-end c.args.lengths.now c.args.i c.requires.1)

pub overflow_add-start-2 : goal.overflow_add-start-2
overflow_add-start-2 c =
    omega (arith, section-end c.args.lengths.now c.args.i c.requires.1)

pub section-requires : goal.section-requires
section-requires c =
    omega (arith, section-end c.args.lengths.now c.args.i c.requires.1)

pub returns : goal.returns
returns c =
    let ls = c.args.lengths.now in
    let l = get_or ls c.args.i 0 in
    let at = c.count_at-start.result + 4 in
    let e : at + l - at ≡ l = add-sub_cancel_left at l in
    let p : c.section.result.now ≡ part c.args.s.now at l = c.section.ensures ∙ ap (part c.args.s.now at) e in
    let q : at + l ≤ length c.args.s.now = omega (arith, section-end ls c.args.i c.requires.1) in (
      p ∙ rw c.count_at-start.ensures (sym (section-part ls c.args.s.now c.args.i c.requires.1)),
      ap length p ∙ length_part c.args.s.now at l q,
    )
