-- `prover_sections::write_c` meets its contract: the count, and after it the corrections, which are the section C.
-- Assumes nothing.
use mathlib.Core.Path.{◌≡◌, ◌∙◌}
use Prim.Native.Nat.{◌*◌, ◌-◌}
use native.Mathlib.Omega.{arith}
use lib.ListN.{length, length-take}
use Rattle.protocol.specs.Shape.{w_of}
use Rattle.protocol.specs.Prover.{c_section}
use Rattle.format.specs.Sizes.{setting_for, alphabet_for, shape_for}
use Rattle.format.proofs.SizeLaws.{in-limits, corrections_most}
use Rattle.sections.proofs.Writes.{framed-one, rest-length}
use Rattle.tables.specs.Sums.{CorrectionsAre}
use Rattle.prover_sections.proofs.SumSections.{corrections_are}
use Rattle.prover_sections.proofs.write_c.Goals as goal

pub slice_bounds-put_count-end-2 : goal.slice_bounds-put_count-end-2
slice_bounds-put_count-end-2 c = simp length-take (omega arith)

pub overflow_sub-s : goal.overflow_sub-s
overflow_sub-s c = (in-limits (shape_for c.args.s) c.requires.0).τ_least

pub overflow_mul-s : goal.overflow_mul-s
overflow_mul-s c =
    rw c.leaf_bytes-w.ensures (omega (arith, corrections_most (setting_for c.args.s) (shape_for c.args.s) c.requires.0))

pub put_count-requires : goal.put_count-requires
put_count-requires c =
    (simp length-take (omega arith), rw c.leaf_bytes-w.ensures (omega (arith, corrections_most (setting_for c.args.s) (shape_for c.args.s) c.requires.0)))

pub write_corrections-requires : goal.write_corrections-requires
write_corrections-requires c =
    rw c.leaf_bytes-w.ensures (c.requires.1, rest-length 4 ((c.args.s.tau - 1) * w_of (alphabet_for c.args.s) (shape_for c.args.s)) c.put_count.new.out c.args.out.now (c.put_count.auto.out ∙ simp length-take (omega arith)) c.requires.2, (in-limits (shape_for c.args.s) c.requires.0).τ_most)

pub returns : goal.returns
returns c =
    let a = c.args in
    let shape = (shape_for c.args.s) in
    let count = c.put_count in
    let corrected = c.write_corrections in
    let leaf = c.leaf_bytes-w in
    let written : CorrectionsAre c.write_corrections.new.out c.args.sums.now (c.args.s.tau - 1) (w_of (alphabet_for c.args.s) (shape_for c.args.s)) = rw leaf.ensures at corrected.ensures in
    let long : length c.write_corrections.new.out ≡ (c.args.s.tau - 1) * w_of (alphabet_for c.args.s) (shape_for c.args.s) = corrected.auto.out ∙ rest-length 4 ((c.args.s.tau - 1) * w_of (alphabet_for c.args.s) (shape_for c.args.s)) c.put_count.new.out c.args.out.now (c.put_count.auto.out ∙ simp length-take (omega arith)) c.requires.2 in
    λ leaves form are.
    framed-one ((a.s.tau - 1) * w_of (alphabet_for a.s) shape) count.new.out a.out.now corrected.new.out (c_section (alphabet_for a.s) shape leaves) (count.auto.out ∙ simp length-take (omega arith)) (rw leaf.ensures at count.ensures)
    (corrections_are (setting_for c.args.s) shape leaves corrected.new.out a.sums.now are written form.leaves-exact form.leaves-spare long (λ i. omega (arith, c.type_inv.sums i))) long
