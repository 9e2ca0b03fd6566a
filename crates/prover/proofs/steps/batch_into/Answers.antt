-- `prover::steps::batch_into` meets its contract: the masks, and the batched forms added to them, framed.
-- Assumes nothing.
use borrow.Author.Rules.{rules}
use mathlib.Core.Path.{◌≡◌, refl, sym, ap, ap₂, ◌∙◌}
use mathlib.Core.List.{List, [], ◌∷◌}
use Prim.Native.Nat.{ℕ, ◌≤◌, ◌<◌}
use borrow.Author.Rules.{rules}
use native.Mathlib.Omega.{arith}
use lib.ListN.{length, get_or-replicate}
use lib.Bits.{bit_xor, xor_zero_l}
use Rattle.protocol.specs.Lists.{block_at}
use Rattle.protocol.specs.Strings.{bit}
use Rattle.protocol.specs.Frames.{frame}
use Rattle.protocol.specs.Shape.{w_of}
use Rattle.format.specs.Sizes.{setting_for, alphabet_for, shape_for}
use Rattle.format.proofs.SizeLaws.{in-limits}
use Rattle.format.proofs.FitLaws.{variables_fit}
use Rattle.protocol.specs.Key.{section_a, section_b}
use Rattle.lanes.specs.Lanes.{lanes, lane_at, mask_lane, mask_bits, first_mask}
use Rattle.forms_choices.proofs.ChoiceLaws.{up-to-first}
use Rattle.forms_columns.specs.Stacks.{coordinate_of}
use Rattle.forms.specs.Batch.{forms_byte, middles_byte}
use Rattle.forms_batching.proofs.VectorLaws.{vectors_below}
use Rattle.prover_sections.proofs.SumSections.{first_is_u}
use Rattle.prover.proofs.BatchSections.{qs0_are, qs1_are}
use Rattle.sections.proofs.Writes.{take-length}
use Rattle.prover.proofs.steps.batch_into.Goals as goal

pub fill_vectors-requires : goal.fill_vectors-requires
fill_vectors-requires c =
    let s = shape_for c.args.s in
    let within = in-limits (shape_for c.args.s) c.requires.key-facts.in-range in
    (omega (arith, c.requires.buffers.table-room, variables_fit (setting_for c.args.s) s), within.n_most, within.τ_most)

pub add_masks-requires : goal.add_masks-requires
add_masks-requires c = record { in-range = c.requires.key-facts.in-range; buffers = c.requires.buffers; qs0-lanes = refl; qs1-lanes = refl }

pub add_forms-requires : goal.add_forms-requires
add_forms-requires c =
    record {
      key-facts = c.requires.key-facts;
      witness-form = c.requires.witness-form;
      batching_length = c.requires.batching_length;
      vectors_room = search rules;
      vectors-end = c.fill_vectors.ensures.vectors_end;
      vectors_narrow = vectors_below (alphabet_for c.args.s).K.base.size c.args.s.n c.args.s.tau c.args.space.now c.fill_vectors.new.vectors (omega (arith, (alphabet_for c.args.s).K.base.four≤size)) c.fill_vectors.ensures.vectors_are c.requires.narrow;
      cells_room = c.requires.cells_room;
      qs0-lanes = search rules;
      qs1-lanes = search rules;
    }

pub slice_bounds-qs0-end : goal.slice_bounds-qs0-end
slice_bounds-qs0-end c =
    omega (arith, (in-limits (shape_for c.args.s) c.requires.key-facts.in-range).τ_most)

pub slice_bounds-put_two-end : goal.slice_bounds-put_two-end
slice_bounds-put_two-end c =
    sym (take-length c.args.s.tau c.add_forms.new.qs0 (omega (arith, (in-limits (shape_for c.args.s) c.requires.key-facts.in-range).τ_most)))

pub slice_bounds-qs1-end : goal.slice_bounds-qs1-end
slice_bounds-qs1-end c =
    omega (arith, (in-limits (shape_for c.args.s) c.requires.key-facts.in-range).τ_most)

pub slice_bounds-put_two-end-2 : goal.slice_bounds-put_two-end-2
slice_bounds-put_two-end-2 c =
    sym (take-length c.args.s.tau c.add_forms.new.qs1 (omega (arith, (in-limits (shape_for c.args.s) c.requires.key-facts.in-range).τ_most)))

pub put_two-requires : goal.put_two-requires
put_two-requires c =
    let first = take-length c.args.s.tau c.add_forms.new.qs0 (omega (arith, (in-limits (shape_for c.args.s) c.requires.key-facts.in-range).τ_most)) in
    let second = take-length c.args.s.tau c.add_forms.new.qs1 (omega (arith, (in-limits (shape_for c.args.s) c.requires.key-facts.in-range).τ_most)) in
    (rw (first, second) c.requires.out-length, omega (arith, first, (in-limits (shape_for c.args.s) c.requires.key-facts.in-range).τ_most), omega (arith, second, (in-limits (shape_for c.args.s) c.requires.key-facts.in-range).τ_most))

pub returns : goal.returns
returns c =
    let a = c.args in
    let s = shape_for c.args.s in
    let within = in-limits (shape_for c.args.s) c.requires.key-facts.in-range in
    let filled = c.fill_vectors in
    let masked = c.add_masks in
    let formed = c.add_forms in
    let T = a.space.now in
    let u = block_at a.sums.now (w_of (alphabet_for a.s) s) 0 in
    let vs : ℕ → ℕ → ℕ = coordinate_of filled.new.vectors in
    let lane : (e : ℕ) → e < a.s.tau → e < lanes = λ e h. omega (arith, h, within.τ_most) in
    let same : (e k : ℕ) → e < a.s.tau → k < a.s.n → vs e k ≡ lane_at T k e = λ e k l h. filled.ensures.vectors_are e k l (omega (arith, h, within.n_most)) ∙ up-to-first a.s.n (λ z. lane_at T z e) k h in
    let wide : a.s.tau ≤ length c.add_forms.new.qs0 = omega (arith, within.τ_most) in
    let wide' : a.s.tau ≤ length c.add_forms.new.qs1 = omega (arith, within.τ_most) in
    λ leaves loaded.
    c.put_two.ensures
    ∙ ap₂ (λ (x y : List ℕ). frame (x ∷ y ∷ []))
    (qs0_are (setting_for c.args.s) s leaves a.key.now a.batching.now T formed.new.qs0 loaded.table_is wide vs same
    (λ e l.
    formed.ensures.lanes_added e l
    ∙ ap (λ (x : ℕ). bit_xor x (forms_byte a.s.degree a.s.n a.s.m (section_a (alphabet_for a.s) s a.key.now) a.batching.now e (vs e)))
    (masked.ensures.lanes_added e l ∙ ap (λ (x : ℕ). bit_xor x (mask_lane a.s.degree T (first_mask a.s e) e)) (get_or-replicate lanes e 0 0 (lane e l)) ∙ xor_zero_l (mask_lane a.s.degree T (first_mask a.s e) e))))
    (qs1_are (setting_for c.args.s) s leaves a.key.now a.batching.now T formed.new.qs1 loaded.table_is wide' vs same a.witness.now u
    (first_is_u (setting_for c.args.s) s leaves a.sums.now within.τ_least loaded.sums-are)
    (λ e l.
    formed.ensures.lanes_added_2 e l
    ∙ ap (λ (x : ℕ). bit_xor x (middles_byte a.s.degree a.s.n a.s.m (section_a (alphabet_for a.s) s a.key.now) (section_b (alphabet_for a.s) s a.key.now) (bit a.witness.now) a.batching.now e (vs e)))
    (masked.ensures.lanes_added_2 e l ∙ ap (λ (x : ℕ). bit_xor x (mask_bits a.s.degree u (first_mask a.s e))) (get_or-replicate lanes e 0 0 (lane e l)) ∙ xor_zero_l (mask_bits a.s.degree u (first_mask a.s e)))))
