-- `prover::prove` meets its contract: the first step, and after it the others.
-- Assumes nothing.
use mathlib.Core.Path.{sym, ◌∙◌}
use mathlib.Core.List.{[], ◌∷◌}
use Prim.Native.Nat.{◌+◌, ◌*◌}
use native.Mathlib.Omega.{arith}
use lib.ListN.{drop}
use Rattle.protocol.specs.Strings.{bytes_for}
use Rattle.protocol.specs.Prover.{c_section, d_section, ũSection, ṼSection, qs0_section, qs1_section}
use Rattle.format.specs.Sizes.{setting_for, alphabet_for, shape_for}
use Rattle.sections.proofs.Writes.{framed-two, rest-length, part_starts, take-length}
use Rattle.protocol.specs.Sections.{bytes_of}
use Rattle.prover.proofs.LoadedLaws.{loaded_narrow, space_of, commit-length}
use Rattle.prover.proofs.prove.Goals as goal

pub load-requires : goal.load-requires
load-requires c =
    (c.requires.of-key.in-range, c.requires.of_leaves, space_of (setting_for c.args.s) (shape_for c.args.s) c.requires.of-key.in-range)

pub commit_bytes-split-requires : goal.commit_bytes-split-requires
commit_bytes-split-requires c = c.requires.of-key.in-range

pub slice_bounds-commit_into-end : goal.slice_bounds-commit_into-end
slice_bounds-commit_into-end c =
    omega (arith, c.commit_bytes-split.ensures ∙ commit-length (setting_for c.args.s) (shape_for c.args.s), c.requires.of_out)

pub slice_bounds-commit_into-end-2 : goal.slice_bounds-commit_into-end-2
slice_bounds-commit_into-end-2 c =
    sym (take-length c.commit_bytes-split.result c.args.out.now (omega (arith, c.commit_bytes-split.ensures ∙ commit-length (setting_for c.args.s) (shape_for c.args.s), c.requires.of_out)))

pub commit_into-requires : goal.commit_into-requires
commit_into-requires c =
    record { in-range = c.requires.of-key.in-range; witness-length = c.requires.of_witness.witness-length; sums-room = c.load.ensures.buffers.sums-room; out-length = take-length c.commit_bytes-split.result c.args.out.now (omega (arith, c.commit_bytes-split.ensures ∙ commit-length (setting_for c.args.s) (shape_for c.args.s), c.requires.of_out)) ∙ c.commit_bytes-split.ensures ∙ commit-length (setting_for c.args.s) (shape_for c.args.s) }

pub slice_bounds-rest_into-count : goal.slice_bounds-rest_into-count
slice_bounds-rest_into-count c =
    part_starts c.commit_bytes-split.result c.commit_into.new.out (drop c.commit_bytes-split.result c.args.out.now) (c.commit_into.auto.out ∙ take-length c.commit_bytes-split.result c.args.out.now (omega (arith, c.commit_bytes-split.ensures ∙ commit-length (setting_for c.args.s) (shape_for c.args.s), c.requires.of_out)))

pub slice_bounds-rest_into-start : goal.slice_bounds-rest_into-start
slice_bounds-rest_into-start c =
    part_starts c.commit_bytes-split.result c.commit_into.new.out (drop c.commit_bytes-split.result c.args.out.now) (c.commit_into.auto.out ∙ take-length c.commit_bytes-split.result c.args.out.now (omega (arith, c.commit_bytes-split.ensures ∙ commit-length (setting_for c.args.s) (shape_for c.args.s), c.requires.of_out)))

pub rest_into-requires : goal.rest_into-requires
rest_into-requires c =
    record {
      key-facts = c.requires.of-key;
      hash-form = c.requires.of_hash;
      witness-form = c.requires.of_witness;
      batching_length = c.requires.of_batching;
      buffers = c.load.ensures.buffers;
      cells_room = omega (arith, c.load.auto.table);
      narrow = loaded_narrow (setting_for c.args.s) (shape_for c.args.s) c.args.leaves.now _ _ c.load.ensures;
      out-length = rest-length c.commit_bytes-split.result (16 + bytes_for c.args.s.t + c.args.s.tau * c.args.s.t + c.args.s.tau + c.args.s.tau) c.commit_into.new.out c.args.out.now (c.commit_into.auto.out ∙ take-length c.commit_bytes-split.result c.args.out.now (omega (arith, c.commit_bytes-split.ensures ∙ commit-length (setting_for c.args.s) (shape_for c.args.s), c.requires.of_out))) (omega (arith, c.commit_bytes-split.ensures ∙ commit-length (setting_for c.args.s) (shape_for c.args.s), c.requires.of_out));
    }

pub returns : goal.returns
unfolding bytes_of
returns c =
    let a = c.args in
    let shape = (shape_for c.args.s) in
    let leaves = c.args.leaves.now in
    framed-two c.commit_bytes-split.result c.commit_into.new.out (drop c.commit_bytes-split.result a.out.now) c.rest_into.new.out (c_section (alphabet_for a.s) shape leaves ∷ d_section (alphabet_for a.s) shape leaves a.witness.now ∷ [])
    (ũSection (alphabet_for a.s) shape leaves a.matrix.now ∷ ṼSection (alphabet_for a.s) shape leaves a.matrix.now ∷ qs0_section (alphabet_for a.s) shape leaves a.key.now a.batching.now ∷ qs1_section (alphabet_for a.s) shape leaves a.key.now a.witness.now a.batching.now ∷ [])
    (c.commit_into.auto.out ∙ take-length c.commit_bytes-split.result c.args.out.now (omega (arith, c.commit_bytes-split.ensures ∙ commit-length (setting_for c.args.s) (shape_for c.args.s), c.requires.of_out))) (c.commit_into.ensures leaves c.load.new.table c.load.ensures) (c.rest_into.ensures leaves c.load.ensures)
