-- `prover::steps::commit_into` meets its contract: the section C, and after it d.
-- Assumes nothing.
use mathlib.Core.Path.{◌≡◌, sym, ◌∙◌}
use mathlib.Core.List.{[], ◌∷◌}
use Prim.Native.Nat.{◌+◌, ◌*◌, ◌-◌}
use native.Mathlib.Omega.{arith}
use lib.ListN.{length, drop}
use Rattle.protocol.specs.Strings.{bytes_for}
use Rattle.protocol.specs.Shape.{w_of}
use Rattle.protocol.specs.Prover.{c_section, d_section}
use Rattle.format.specs.Sizes.{setting_for, alphabet_for, shape_for}
use Rattle.format.proofs.SizeLaws.{in-limits, corrections_most}
use Rattle.sections.proofs.Writes.{framed-two, rest-length, part_starts, take-length}
use Rattle.prover.proofs.steps.commit_into.Goals as goal

pub overflow_sub-split : goal.overflow_sub-split
overflow_sub-split c = (in-limits (shape_for c.args.s) c.requires.in-range).τ_least

pub overflow_mul-split : goal.overflow_mul-split
overflow_mul-split c =
    rw c.leaf_bytes.ensures (omega (arith, corrections_most (setting_for c.args.s) (shape_for c.args.s) c.requires.in-range))

pub overflow_add-split : goal.overflow_add-split
overflow_add-split c =
    rw c.leaf_bytes.ensures (omega (arith, corrections_most (setting_for c.args.s) (shape_for c.args.s) c.requires.in-range))

pub slice_bounds-write_c-end : goal.slice_bounds-write_c-end
slice_bounds-write_c-end c = rw c.leaf_bytes.ensures (omega (arith, c.requires.out-length))

pub slice_bounds-write_c-end-2 : goal.slice_bounds-write_c-end-2
slice_bounds-write_c-end-2 c =
    rw c.leaf_bytes.ensures (sym (take-length (4 + (c.args.s.tau - 1) * w_of (alphabet_for c.args.s) (shape_for c.args.s)) c.args.out.now (omega (arith, c.requires.out-length))))

pub write_c-requires : goal.write_c-requires
write_c-requires c =
    rw c.leaf_bytes.ensures (c.requires.in-range, c.requires.sums-room, take-length (4 + (c.args.s.tau - 1) * w_of (alphabet_for c.args.s) (shape_for c.args.s)) c.args.out.now (omega (arith, c.requires.out-length)))

pub slice_bounds-write_d-count : goal.slice_bounds-write_d-count
slice_bounds-write_d-count c =
    part_starts (4 + (c.args.s.tau - 1) * c.leaf_bytes.result) c.write_c.new.out (drop (4 + (c.args.s.tau - 1) * c.leaf_bytes.result) c.args.out.now) (c.write_c.auto.out ∙ take-length (4 + (c.args.s.tau - 1) * c.leaf_bytes.result) c.args.out.now (rw c.leaf_bytes.ensures (omega (arith, c.requires.out-length))))

pub slice_bounds-write_d-start : goal.slice_bounds-write_d-start
slice_bounds-write_d-start c =
    part_starts (4 + (c.args.s.tau - 1) * c.leaf_bytes.result) c.write_c.new.out (drop (4 + (c.args.s.tau - 1) * c.leaf_bytes.result) c.args.out.now) (c.write_c.auto.out ∙ take-length (4 + (c.args.s.tau - 1) * c.leaf_bytes.result) c.args.out.now (rw c.leaf_bytes.ensures (omega (arith, c.requires.out-length))))

pub write_d-requires : goal.write_d-requires
write_d-requires c =
    let long : length c.write_c.new.out ≡ 4 + (c.args.s.tau - 1) * c.leaf_bytes.result = c.write_c.auto.out ∙ take-length (4 + (c.args.s.tau - 1) * c.leaf_bytes.result) c.args.out.now (rw c.leaf_bytes.ensures (omega (arith, c.requires.out-length))) in
    (c.requires.in-range, c.requires.sums-room, c.requires.witness-length, rest-length (4 + (c.args.s.tau - 1) * c.leaf_bytes.result) (4 + bytes_for c.args.s.n) c.write_c.new.out c.args.out.now long (rw c.leaf_bytes.ensures (omega (arith, c.requires.out-length))))

pub returns : goal.returns
returns c =
    let a = c.args in
    let shape = (shape_for c.args.s) in
    let first = c.write_c in
    λ leaves table loaded.
    framed-two (4 + (a.s.tau - 1) * c.leaf_bytes.result) first.new.out (drop (4 + (a.s.tau - 1) * c.leaf_bytes.result) a.out.now) c.write_d.new.out (c_section (alphabet_for a.s) shape leaves ∷ []) (d_section (alphabet_for a.s) shape leaves a.witness.now ∷ [])
    (first.auto.out ∙ take-length (4 + (c.args.s.tau - 1) * c.leaf_bytes.result) c.args.out.now (rw c.leaf_bytes.ensures (omega (arith, c.requires.out-length)))) (first.ensures leaves loaded.leaves-form loaded.sums-are) (c.write_d.ensures leaves loaded.sums-are)
