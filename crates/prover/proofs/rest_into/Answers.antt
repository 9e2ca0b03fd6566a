-- `prover::rest_into` meets its contract: the second step, and after it the third.
-- Assumes nothing.
use mathlib.Core.Path.{sym, ◌∙◌}
use mathlib.Core.List.{[], ◌∷◌}
use Prim.Native.Nat.{◌+◌}
use native.Mathlib.Omega.{arith}
use lib.ListN.{drop}
use Rattle.protocol.specs.Prover.{ũSection, ṼSection, qs0_section, qs1_section}
use Rattle.format.specs.Sizes.{setting_for, alphabet_for, shape_for}
use Rattle.sections.proofs.Writes.{framed-two, rest-length, part_starts, take-length}
use Rattle.prover.proofs.LoadedLaws.{hash-length}
use Rattle.prover.proofs.rest_into.Goals as goal

pub hash_bytes-split-requires : goal.hash_bytes-split-requires
hash_bytes-split-requires c = c.requires.key-facts.in-range

pub slice_bounds-hash_into-end : goal.slice_bounds-hash_into-end
slice_bounds-hash_into-end c =
    omega (arith, c.hash_bytes-split.ensures ∙ hash-length (setting_for c.args.s) (shape_for c.args.s), c.requires.out-length)

pub slice_bounds-hash_into-end-2 : goal.slice_bounds-hash_into-end-2
slice_bounds-hash_into-end-2 c =
    sym (take-length c.hash_bytes-split.result c.args.out.now (omega (arith, c.hash_bytes-split.ensures ∙ hash-length (setting_for c.args.s) (shape_for c.args.s), c.requires.out-length)))

pub hash_into-requires : goal.hash_into-requires
hash_into-requires c =
    record { in-range = c.requires.key-facts.in-range; hash-form = c.requires.hash-form; buffers = c.requires.buffers; out-length = take-length c.hash_bytes-split.result c.args.out.now (omega (arith, c.hash_bytes-split.ensures ∙ hash-length (setting_for c.args.s) (shape_for c.args.s), c.requires.out-length)) ∙ c.hash_bytes-split.ensures ∙ hash-length (setting_for c.args.s) (shape_for c.args.s) }

pub slice_bounds-batch_into-count : goal.slice_bounds-batch_into-count
slice_bounds-batch_into-count c =
    part_starts c.hash_bytes-split.result c.hash_into.new.out (drop c.hash_bytes-split.result c.args.out.now) (c.hash_into.auto.out ∙ take-length c.hash_bytes-split.result c.args.out.now (omega (arith, c.hash_bytes-split.ensures ∙ hash-length (setting_for c.args.s) (shape_for c.args.s), c.requires.out-length)))

pub slice_bounds-batch_into-start : goal.slice_bounds-batch_into-start
slice_bounds-batch_into-start c =
    part_starts c.hash_bytes-split.result c.hash_into.new.out (drop c.hash_bytes-split.result c.args.out.now) (c.hash_into.auto.out ∙ take-length c.hash_bytes-split.result c.args.out.now (omega (arith, c.hash_bytes-split.ensures ∙ hash-length (setting_for c.args.s) (shape_for c.args.s), c.requires.out-length)))

pub batch_into-requires : goal.batch_into-requires
batch_into-requires c =
    record {
      key-facts = c.requires.key-facts;
      witness-form = c.requires.witness-form;
      batching_length = c.requires.batching_length;
      buffers = c.requires.buffers;
      cells_room = c.requires.cells_room;
      narrow = c.requires.narrow;
      out-length = rest-length c.hash_bytes-split.result (8 + c.args.s.tau + c.args.s.tau) c.hash_into.new.out c.args.out.now (c.hash_into.auto.out ∙ take-length c.hash_bytes-split.result c.args.out.now (omega (arith, c.hash_bytes-split.ensures ∙ hash-length (setting_for c.args.s) (shape_for c.args.s), c.requires.out-length))) (omega (arith, c.hash_bytes-split.ensures ∙ hash-length (setting_for c.args.s) (shape_for c.args.s), c.requires.out-length));
    }

pub returns : goal.returns
returns c =
    let a = c.args in
    let shape = (shape_for c.args.s) in
    λ leaves loaded.
    framed-two c.hash_bytes-split.result c.hash_into.new.out (drop c.hash_bytes-split.result a.out.now) c.batch_into.new.out (ũSection (alphabet_for a.s) shape leaves a.matrix.now ∷ ṼSection (alphabet_for a.s) shape leaves a.matrix.now ∷ [])
    (qs0_section (alphabet_for a.s) shape leaves a.key.now a.batching.now ∷ qs1_section (alphabet_for a.s) shape leaves a.key.now a.witness.now a.batching.now ∷ [])
    (c.hash_into.auto.out ∙ take-length c.hash_bytes-split.result c.args.out.now (omega (arith, c.hash_bytes-split.ensures ∙ hash-length (setting_for c.args.s) (shape_for c.args.s), c.requires.out-length))) (c.hash_into.ensures leaves loaded) (c.batch_into.ensures leaves loaded)
