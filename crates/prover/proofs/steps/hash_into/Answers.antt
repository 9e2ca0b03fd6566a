-- `prover::steps::hash_into` meets its contract: the section ũ, and after it Ṽ.
-- Assumes nothing.
use mathlib.Core.Path.{◌≡◌, sym, ◌∙◌}
use mathlib.Core.List.{[], ◌∷◌}
use Prim.Native.Nat.{◌+◌, ◌*◌}
use native.Mathlib.Omega.{arith}
use lib.ListN.{length, drop}
use Rattle.protocol.specs.Strings.{bytes_for}
use Rattle.protocol.specs.Prover.{ũSection, ṼSection}
use Rattle.format.specs.Sizes.{alphabet_for, shape_for}
use Rattle.format.proofs.SizeLaws.{in-limits, bytes_most}
use Rattle.sections.proofs.Writes.{framed-two, rest-length, part_starts, take-length}
use Rattle.prover.proofs.steps.hash_into.Goals as goal

pub bytes_for-split-requires : goal.bytes_for-split-requires
bytes_for-split-requires c = omega (arith, (in-limits (shape_for c.args.s) c.requires.in-range).t_most)

pub overflow_add-split : goal.overflow_add-split
overflow_add-split c =
    rw c.bytes_for-split.ensures (omega (arith, bytes_most (shape_for c.args.s).t (omega (arith, (in-limits (shape_for c.args.s) c.requires.in-range).t_most))))

pub slice_bounds-write_u-end : goal.slice_bounds-write_u-end
slice_bounds-write_u-end c = rw c.bytes_for-split.ensures (omega (arith, c.requires.out-length))

pub slice_bounds-write_u-end-2 : goal.slice_bounds-write_u-end-2
slice_bounds-write_u-end-2 c =
    sym (take-length (4 + c.bytes_for-split.result) c.args.out.now (rw c.bytes_for-split.ensures (omega (arith, c.requires.out-length))))

pub write_u-requires : goal.write_u-requires
write_u-requires c =
    rw c.bytes_for-split.ensures (c.requires.in-range, c.requires.buffers.sums-room, c.requires.hash-form, take-length (4 + bytes_for c.args.s.t) c.args.out.now (omega (arith, c.requires.out-length)))

pub slice_bounds-write_v-count : goal.slice_bounds-write_v-count
slice_bounds-write_v-count c =
    part_starts (4 + c.bytes_for-split.result) c.write_u.new.out (drop (4 + c.bytes_for-split.result) c.args.out.now) (c.write_u.auto.out ∙ take-length (4 + c.bytes_for-split.result) c.args.out.now (rw c.bytes_for-split.ensures (omega (arith, c.requires.out-length))))

pub slice_bounds-write_v-start : goal.slice_bounds-write_v-start
slice_bounds-write_v-start c =
    part_starts (4 + c.bytes_for-split.result) c.write_u.new.out (drop (4 + c.bytes_for-split.result) c.args.out.now) (c.write_u.auto.out ∙ take-length (4 + c.bytes_for-split.result) c.args.out.now (rw c.bytes_for-split.ensures (omega (arith, c.requires.out-length))))

pub write_v-requires : goal.write_v-requires
write_v-requires c =
    let long : length c.write_u.new.out ≡ 4 + c.bytes_for-split.result = c.write_u.auto.out ∙ take-length (4 + c.bytes_for-split.result) c.args.out.now (rw c.bytes_for-split.ensures (omega (arith, c.requires.out-length))) in
    (c.requires.in-range, c.requires.buffers.table-room, c.requires.hash-form, rest-length (4 + c.bytes_for-split.result) (4 + c.args.s.tau * c.args.s.t) c.write_u.new.out c.args.out.now long (rw c.bytes_for-split.ensures (omega (arith, c.requires.out-length))))

pub returns : goal.returns
returns c =
    let a = c.args in
    let shape = (shape_for c.args.s) in
    let first = c.write_u in
    λ leaves loaded.
    framed-two (4 + c.bytes_for-split.result) first.new.out (drop (4 + c.bytes_for-split.result) a.out.now) c.write_v.new.out (ũSection (alphabet_for a.s) shape leaves a.matrix.now ∷ []) (ṼSection (alphabet_for a.s) shape leaves a.matrix.now ∷ [])
    (first.auto.out ∙ take-length (4 + c.bytes_for-split.result) c.args.out.now (rw c.bytes_for-split.ensures (omega (arith, c.requires.out-length)))) (first.ensures leaves loaded.sums-are) (c.write_v.ensures leaves loaded.table_is)
